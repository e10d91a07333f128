use Rattle.std.proofs.Common.{◌≡◌, ◌<◌, ◌^◌, ℕ, List, rules, length, subst, sym, ap, ◌∙◌, inl}
use Rattle.std.specs.Prelude.{Option, Result, ⊤, Ok, Err, OnOk}
use Rattle.std.specs.List.{flat_map}
use Rattle.std.specs.Io.KnownBytes.{Appends}
use Rattle.byteorder.specs.Endian.{little_bytes}
use Rattle.requests.specs.declared.answer.Answer.{Answer}
use Rattle.requests.specs.declared.status.Status.TheVariants as status
use Rattle.requests.specs.Frames.{answer_bytes, frame_bytes, row_bytes, HasLength, Sends}
use Rattle.requests.proofs.sending.send.Goals as goal

-- the frame that was sent is the answer's, whose length its head can say
sent : {E : Type 0} (old new : Option (List ℕ)) (answer : Answer) (frame payload : List ℕ) (told : Result ⊤ E) → OnOk told (Appends old new frame) → OnOk told (length payload < 2 ^ 32)
    → (length payload < 2 ^ 32 → HasLength answer) → frame ≡ answer_bytes answer → OnOk told (Sends old new answer)
sent old new answer frame payload (Ok done) appends short says is = inl (says short, subst (Appends old new) is appends)
sent old new answer frame payload (Err error) appends short says is = tt

-- the same of an answer whose bytes are few
sent-short : {E : Type 0} (old new : Option (List ℕ)) (answer : Answer) (frame : List ℕ) (told : Result ⊤ E) → OnOk told (Appends old new frame) → HasLength answer
    → frame ≡ answer_bytes answer → OnOk told (Sends old new answer)
sent-short old new answer frame (Ok done) appends short is = inl (short, subst (Appends old new) is appends)
sent-short old new answer frame (Err error) appends short is = tt

pub returns-in-Ok : goal.returns-in-Ok
returns-in-Ok g c =
    let count : c.len-count.result ≡ length c.in-Rows.rows.items = search rules in
    let bytes : c.as_slice-in-Ok.result.now ≡ flat_map row_bytes c.in-Rows.rows.items = search rules in
    sent _ _ c.args.answer.now _ c.as_slice-in-Ok.result.now c.send_frame-in-Ok.result c.send_frame-in-Ok.ensures.frame c.send_frame-in-Ok.ensures.length
    (λ short. subst HasLength (sym c.in-Rows.is) (subst (λ (l : List ℕ). length l < 2 ^ 32) bytes short))
    (ap (λ (n : ℕ). frame_bytes status.Done n c.as_slice-in-Ok.result.now) count ∙ ap (frame_bytes status.Done (length c.in-Rows.rows.items)) bytes ∙ ap answer_bytes (sym c.in-Rows.is))

pub returns-in-Ok-bytes_of_numbers : goal.returns-in-Ok-bytes_of_numbers
returns-in-Ok-bytes_of_numbers g c =
    let count : 7 ≡ length c.in-Numbers.numbers = search rules in
    let bytes : c.as_slice-in-Ok-bytes_of_numbers.result.now ≡ flat_map (little_bytes 8) c.in-Numbers.numbers = search rules in
    sent-short _ _ c.args.answer.now _ c.send_frame-in-Ok-bytes_of_numbers.result c.send_frame-in-Ok-bytes_of_numbers.ensures.frame
    (subst HasLength (sym c.in-Numbers.is) tt)
    (ap (λ (n : ℕ). frame_bytes status.Done n c.as_slice-in-Ok-bytes_of_numbers.result.now) count ∙ ap (frame_bytes status.Done (length c.in-Numbers.numbers)) bytes ∙ ap answer_bytes (sym c.in-Numbers.is))

pub returns-in-Misuse : goal.returns-in-Misuse
returns-in-Misuse g c =
    sent-short _ _ c.args.answer.now _ c.send_frame-in-Misuse.result c.send_frame-in-Misuse.ensures.frame (subst HasLength (sym c.in-Misuse.is) tt)
    (ap answer_bytes (sym c.in-Misuse.is))

pub returns-in-Refused : goal.returns-in-Refused
returns-in-Refused g c =
    sent _ _ c.args.answer.now _ c.as_bytes-in-Refused.result.now c.send_frame-in-Refused.result c.send_frame-in-Refused.ensures.frame c.send_frame-in-Refused.ensures.length
    (λ short. subst HasLength (sym c.in-Refused.is) (subst (λ (l : List ℕ). length l < 2 ^ 32) c.as_bytes-in-Refused.ensures.value short))
    (ap (frame_bytes c.in-Refused.status 0) c.as_bytes-in-Refused.ensures.value ∙ ap answer_bytes (sym c.in-Refused.is))

pub returns-in-Done : goal.returns-in-Done
returns-in-Done g c =
    sent-short _ _ c.args.answer.now _ c.send_frame.result c.send_frame.ensures.frame (subst HasLength (sym c.in-Done.is) tt) (ap answer_bytes (sym c.in-Done.is))
