-- A record that is written while other operations are made.
use Rattle.std.proofs.Common.{◌≡◌, ◌≢◌, ◌⊎◌, inl, inr, List, [], ◌∷◌, refl, sym, ap, subst}
use Rattle.base.specs.Layout.{Layout}
use Rattle.base.specs.Records.{Record}
use Rattle.base.specs.Images.{Image}
use Rattle.pmem.specs.Device.{Device, IsOrderly}
use Rattle.pmem.specs.Trace.{Operation, store_op, flush_op, fence_op, failure, applied, after, Along}
use Rattle.pmem.specs.Words.{LeavesOnly}
use Rattle.pmem.proofs.Images.{leaves_refl, leaves_trans, leaves_weaken}
use Rattle.pmem.proofs.Lists.{leaves-applied}
use Rattle.pmem.proofs.Traces.{along-first, words-after}
use Rattle.log_area.specs.Stages.{IsStage}
use Rattle.log_area.specs.Writings.{Progress, advanced, operation_of, IsReplacing, IsRuledMeanwhile, SparesLog, WritesAmong}
use Rattle.log_area.proofs.UntouchedWords.{KeepsLog, replacing_kept, keeps_log-stored, keeps_log-flushed, keeps_log-fenced, keeps_log-failed}
use Rattle.log_area.proofs.Replacing.{still_stored, ruled_meanwhile, replacing_next, images_next}
use Rattle.log_area.proofs.Stages.{staged-next}

spares-kept : (layout : Layout) (op : Operation) (device : Device) → SparesLog layout op → KeepsLog layout device (applied op device)
spares-kept layout (store_op word value) device far = keeps_log-stored layout word value far refl
spares-kept layout (flush_op actor line) device spares = keeps_log-flushed layout actor line refl
spares-kept layout (fence_op actor) device spares = keeps_log-fenced layout actor refl
spares-kept layout failure device spares = keeps_log-failed layout refl

module _ (old : Record) where
  -- what may rule at a stage may rule later
  ruled-later : (ops : List Operation) (p reached : Progress) (image : Image) → WritesAmong p ops reached → IsRuledMeanwhile old p image → IsRuledMeanwhile old reached image
  ruled-later [] p reached image among ruled = subst (λ (q : Progress). IsRuledMeanwhile old q image) (sym among) ruled
  ruled-later (op ∷ ops) p reached image (inl (spares, more)) ruled = ruled-later ops p reached image more ruled
  ruled-later (op ∷ ops) p reached image (inr (un, own, more)) (inl before) = ruled-later ops (advanced p) reached image more (inl before)
  ruled-later (op ∷ ops) p reached image (inr (un, own, more)) (inr (stored, next)) = ruled-later ops (advanced p) reached image more (inr (still_stored p.stage stored, next))

  -- the writing has got further
  pub record HasReached (now then : Device) (reached : Progress) : Type 0 where
    pub replacing : IsReplacing old reached then
    pub images : LeavesOnly now then (IsRuledMeanwhile old reached)

  goes-on : (ops : List Operation) (q reached : Progress) (now mid then : Device) → WritesAmong q ops reached → LeavesOnly now mid (IsRuledMeanwhile old q) → HasReached mid then reached → HasReached now then reached
  goes-on ops q reached now mid then more first rest =
      record { replacing = rest.replacing; images = leaves_trans (leaves_weaken (λ image ruled. ruled-later ops q reached image more ruled) first) rest.images }

  pub reaches : (ops : List Operation) (p reached : Progress) (now : Device) → IsStage p.stage → IsReplacing old p now → WritesAmong p ops reached → Along IsOrderly ops now → HasReached now (after ops now) reached
  reaches [] p reached now staged is among along =
      subst (HasReached now now) (sym among) (record { replacing = is; images = leaves_refl now (IsRuledMeanwhile old p) along (ruled_meanwhile old p now is) })
  reaches (op ∷ ops) p reached now staged is (inl (spares, more)) along =
      let mid : Device = applied op now in
      let next : IsOrderly mid = along-first IsOrderly ops mid along.1 in
      let there : IsReplacing old p mid = replacing_kept p now mid (words-after (op ∷ []) now) (spares-kept p.layout op now spares) old is in
      goes-on ops p reached now mid (after ops mid) more (leaves-applied (IsRuledMeanwhile old p) op along.0 next refl (ruled_meanwhile old p now is) (ruled_meanwhile old p mid there)) (reaches ops p reached mid staged there more along.1)
  reaches (op ∷ ops) p reached now staged is (inr (un, own, more)) along =
      let mid : Device = applied op now in
      let next : IsOrderly mid = along-first IsOrderly ops mid along.1 in
      let made : mid ≡ applied (operation_of p) now = ap (λ (o : Operation). applied o now) own in
      let there : IsReplacing old (advanced p) mid = replacing_next old p now mid along.0 next staged un made is in
      goes-on ops (advanced p) reached now mid (after ops mid) more (images_next old p now mid along.0 next staged un made is) (reaches ops (advanced p) reached mid (staged-next p.stage staged) there more along.1)
