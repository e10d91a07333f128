-- The parts of a request to open a store.
use Rattle.std.proofs.Common.{◌≡◌, ℕ, List, ◌++◌, length, drop, Some, None, inl, inr, refl, sym, ap, ◌∙◌, subst, arith}
use Rattle.std.specs.Prelude.{Option, Result, Ok, Err, IfOk, IsUtf8}
use Rattle.std.specs.String.{string_bytes}
use Rattle.std.specs.Io.KnownBytes.{Consumes}
use Rattle.std.proofs.KnownBytes.{Consumes-trans}
use Rattle.std.proofs.lemmas.List.{drop_at}
use Rattle.std.proofs.lemmas.Str.{IsUtf8-string_bytes}
use Rattle.byteorder.specs.Endian.{little_bytes}
use Rattle.requests.specs.declared.head.Head.{Head}
use Rattle.requests.specs.declared.opening.AskedLayout.{AskedLayout}
use Rattle.requests.specs.declared.opening.AskedLayout.TheVariants.{Existing, Narrow, Wide, Large}
use Rattle.requests.specs.declared.opening.Opening.{Opening}
use Rattle.requests.specs.Frames.{head_bytes, IsHead}
use Rattle.requests.specs.Openings.{asked_bytes, asked_head, opening_bytes, opening_head, IsOpeningOf, ReceivesName, ReceivesOpening}

-- behind the numbers of one layout and of another there is the same name
same-behind : (size : ℕ) (one two name other : List ℕ) → length one ≡ size → length two ≡ size → one ++ name ≡ two ++ other → name ≡ other
same-behind size one two name other first second same = sym (drop_at one name size first) ∙ ap (drop size) same ∙ drop_at two other size second

-- a head and a payload make one layout before one name
pub same-name : (head : Head) (one two : AskedLayout) (name other : List ℕ) → asked_head one (length name) head.table ≡ head → asked_head two (length other) head.table ≡ head
    → asked_bytes one ++ name ≡ asked_bytes two ++ other → name ≡ other
same-name head Existing Existing name other first second same = same
same-name head Existing (Narrow n) name other first second same = absurd (omega (arith, ap (λ (h : Head). h.code) (first ∙ sym second)))
same-name head Existing (Wide n) name other first second same = absurd (omega (arith, ap (λ (h : Head). h.code) (first ∙ sym second)))
same-name head Existing (Large l n) name other first second same = absurd (omega (arith, ap (λ (h : Head). h.code) (first ∙ sym second)))
same-name head (Narrow m) Existing name other first second same = absurd (omega (arith, ap (λ (h : Head). h.code) (first ∙ sym second)))
same-name head (Narrow m) (Narrow n) name other first second same =
    same-behind 16 (little_bytes 8 m.places ++ little_bytes 8 m.window) (little_bytes 8 n.places ++ little_bytes 8 n.window) name other refl refl same
same-name head (Narrow m) (Wide n) name other first second same = absurd (omega (arith, ap (λ (h : Head). h.code) (first ∙ sym second)))
same-name head (Narrow m) (Large l n) name other first second same = absurd (omega (arith, ap (λ (h : Head). h.code) (first ∙ sym second)))
same-name head (Wide m) Existing name other first second same = absurd (omega (arith, ap (λ (h : Head). h.code) (first ∙ sym second)))
same-name head (Wide m) (Narrow n) name other first second same = absurd (omega (arith, ap (λ (h : Head). h.code) (first ∙ sym second)))
same-name head (Wide m) (Wide n) name other first second same =
    same-behind 16 (little_bytes 8 m.places ++ little_bytes 8 m.window) (little_bytes 8 n.places ++ little_bytes 8 n.window) name other refl refl same
same-name head (Wide m) (Large l n) name other first second same = absurd (omega (arith, ap (λ (h : Head). h.code) (first ∙ sym second)))
same-name head (Large k m) Existing name other first second same = absurd (omega (arith, ap (λ (h : Head). h.code) (first ∙ sym second)))
same-name head (Large k m) (Narrow n) name other first second same = absurd (omega (arith, ap (λ (h : Head). h.code) (first ∙ sym second)))
same-name head (Large k m) (Wide n) name other first second same = absurd (omega (arith, ap (λ (h : Head). h.code) (first ∙ sym second)))
same-name head (Large k m) (Large l n) name other first second same =
    same-behind 24 (little_bytes 8 k ++ (little_bytes 8 m.places ++ little_bytes 8 m.window)) (little_bytes 8 l ++ (little_bytes 8 n.places ++ little_bytes 8 n.window)) name other refl refl same

table-of : (layout : AskedLayout) (size channels : ℕ) → (asked_head layout size channels).table ≡ channels
table-of Existing size channels = refl
table-of (Narrow n) size channels = refl
table-of (Wide n) size channels = refl
table-of (Large lines n) size channels = refl

-- if the name isn't text, the frame isn't that of a request
pub no-text : (head : Head) (payload : List ℕ) (layout : AskedLayout) (name : List ℕ) → asked_head layout (length name) head.table ≡ head → asked_bytes layout ++ name ≡ payload
    → (IsUtf8 name → ⊥) → IsOpeningOf head payload None
no-text head payload layout name is made none opening same whole =
    let table : opening.channels ≡ head.table = sym (table-of opening.layout (length (string_bytes opening.name)) opening.channels) ∙ ap (λ (h : Head). h.table) same in
    let again : asked_head opening.layout (length (string_bytes opening.name)) head.table ≡ head = subst (λ (n : ℕ). asked_head opening.layout (length (string_bytes opening.name)) n ≡ head) table same in
    let text : string_bytes opening.name ≡ name =
    sym (same-name head layout opening.layout name (string_bytes opening.name) is again (made ∙ sym whole)) in
    none (subst IsUtf8 text (IsUtf8-string_bytes opening.name))

-- what was read behind a head makes a frame with it
pub receives-opening : (head : Head) (old mid new : Option (List ℕ)) (received : Option Opening) → IsHead head → Consumes old mid (head_bytes head) → ReceivesName head mid new received
    → ReceivesOpening old new received
receives-opening head old mid new (Some opening) is first after =
    let frame : head_bytes head ++ after.0 ≡ opening_bytes opening =
    ap (λ (h : Head). head_bytes h ++ after.0) (sym after.3.0) ∙ ap (λ (l : List ℕ). head_bytes (opening_head opening) ++ l) (sym after.3.1) in
    subst (Consumes old new) frame (Consumes-trans old mid new (head_bytes head) after.0 first after.1)
receives-opening head old mid new None is first (inl after) =
    inl (head_bytes head ++ after.0, Consumes-trans old mid new (head_bytes head) after.0 first after.1, (head, after.0, is, refl, after.2, after.3))
receives-opening head old mid new None is first (inr after) =
    inr (head_bytes head ++ after.0, Consumes-trans old mid new (head_bytes head) after.0 first after.1, inr (head, after.0, is, refl, after.2, after.3), after.4)

-- the same of what a function returned
pub receives-opening-ok : {E : Type 0} (head : Head) (old mid new : Option (List ℕ)) (told : Result (Option Opening) E) → IsHead head → Consumes old mid (head_bytes head)
    → IfOk told (ReceivesName head mid new) → IfOk told (ReceivesOpening old new)
receives-opening-ok head old mid new (Ok received) is first after = receives-opening head old mid new received is first after
receives-opening-ok head old mid new (Err error) is first after = tt

-- a whole payload was read
pub receives-whole : (head : Head) (old new : Option (List ℕ)) (payload : List ℕ) (received : Option Opening) → Consumes old new payload → length payload ≡ head.length
    → IsOpeningOf head payload received → ReceivesName head old new received
receives-whole head old new payload (Some opening) came size is = (payload, came, size, is)
receives-whole head old new payload None came size is = inl (payload, came, size, is)
