use Rattle.std.proofs.Common.{◌≡◌, ◌⊎◌, inl, inr, ℕ, ◌^◌, ◌<◌, ◌≤◌, true, length, sym, subst}
use Rattle.base.specs.Commits.{overlaid}
use Rattle.txn.specs.WriteSets.{plain_writes}
use Rattle.index.specs.Reading.{ranged, is_between}
use Rattle.index.specs.declared.ranges.KeyRange.TheVariants.{Between}
use Rattle.session_steps.proofs.reads.Beginnings.{enough-left}
use Rattle.session_steps.proofs.sessions.Sessions.first_seen.Goals as goal

pub returns-in-Ok-listed-clause-rows : goal.returns-in-Ok-listed-clause-rows
returns-in-Ok-listed-clause-rows g c = λ counts tables agree linked shows.
    c.in-Ok-listed.ensures.rows (ranged (Between c.args.first c.in-Ok.part.reached) (overlaid (plain_writes c.args.writes.now) tables)) (c.in-Ok-lay_over.ensures.rows tables (c.in-Ok.ensures.rows counts tables agree linked shows))

pub returns-in-Ok-listed-clause-reached : goal.returns-in-Ok-listed-clause-reached
returns-in-Ok-listed-clause-reached g c = by c.in-Ok.ensures.reached
  where
    by : ((c.in-Ok.part.reached ≡ c.args.last) ⊎ ((is_between c.args.first c.args.last c.in-Ok.part.reached ≡ true) × (c.enough-enough.result ≤ length c.in-Ok.part.rows.entries)))
        → (c.in-Ok.part.reached ≡ c.args.last) ⊎ ((is_between c.args.first c.args.last c.in-Ok.part.reached ≡ true) × (c.args.limit ≤ length c.in-Ok-listed.rows.items))
    by (inl is) = inl is
    by (inr enough) = inr (
      enough.0,
      subst (λ (n : ℕ). c.args.limit ≤ n) (sym c.in-Ok-listed.ensures.count)
          (enough-left c.args.limit (length c.args.writes.now) c.enough-enough.result (length c.in-Ok.part.rows.entries) (length c.lay_over.new.rows.entries) c.enough-enough.ensures (subst (λ (n : ℕ). n < 2 ^ 63) c.len-looked_at.ensures.len c.len-looked_at.ensures.small) enough.1 c.in-Ok-lay_over.ensures.count),
    )
