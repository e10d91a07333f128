-- A conversation grows by one exchange, and ends with the input.
use Rattle.std.proofs.Common.{◌≡◌, ℕ, List, [], ◌∷◌, ◌++◌, None, sym, subst, append-nil}
use Rattle.std.specs.Prelude.{Option}
use Rattle.std.specs.List.{flat_map}
use Rattle.std.specs.Io.KnownBytes.{Appends, Consumes, IsAtEnd}
use Rattle.std.proofs.KnownBytes.{Appends-trans, Consumes-trans}
use Rattle.std.proofs.lemmas.List.{flat_map_more}
use Rattle.requests.specs.Frames.{IsCutOff}
use Rattle.serving.specs.declared.channel.Progress.{Progress}
use Rattle.serving.specs.declared.channel.Progress.TheVariants as progress
use Rattle.serving.specs.Conversations.{Exchange, IsExchange, Exchanges, Follows, Converses, ServesAll}

follows-more : (from after next : Option ℕ) (es : List Exchange) (e : Exchange) → Follows from es after → IsExchange after e → next ≡ e.after → Follows from (es ++ e ∷ []) next
follows-more from after next [] e follows is ends = (subst (λ (session : Option ℕ). IsExchange session e) follows is, ends)
follows-more from after next (x ∷ es) e follows is ends = (follows.0, follows-more x.after after next es e follows.1 is ends)

-- one exchange more
pub converses-more : (input mid left output told sent : Option (List ℕ)) (from after next : Option ℕ) (e : Exchange) → Converses input mid output told from after → IsExchange after e
    → Consumes mid left e.came → Appends told sent e.went → next ≡ e.after → Converses input left output sent from next
converses-more input mid left output told sent from after next e before is came went ends =
    let es = before.exchanges in record {
      exchanges = es ++ e ∷ [];
      came = subst (Consumes input left) (flat_map_more (λ (x : Exchange). x.came) [] es e) (Consumes-trans input mid left (flat_map (λ (x : Exchange). x.came) es) e.came before.came came);
      went = subst (Appends output sent) (flat_map_more (λ (x : Exchange). x.went) [] es e) (Appends-trans output told sent (flat_map (λ (x : Exchange). x.went) es) e.went before.went went);
      follows = follows-more from after next es e before.follows is ends;
    }

-- the input has ended, and nothing more was sent
pub converses-ended : (input mid left output told sent : Option (List ℕ)) (after : Option ℕ) (rest : List ℕ) → Converses input mid output told None after
    → Consumes mid left rest → IsCutOff 480 rest → IsAtEnd left → Appends told sent [] → ServesAll input left output sent
converses-ended input mid left output told sent after rest before came short ended nothing =
    let bytes = flat_map (λ (x : Exchange). x.went) before.exchanges in record {
      before = mid;
      after = after;
      converses = record {
        exchanges = before.exchanges;
        came = before.came;
        went = subst (Appends output sent) (append-nil bytes) (Appends-trans output told sent bytes [] before.went nothing);
        follows = before.follows;
      };
      rest = rest;
      came = came;
      short = short;
      ended = ended;
    }

-- the same of what was made
pub converses-answered : (input mid left output told sent : Option (List ℕ)) (from after next : Option ℕ) (made : Progress) → made ≡ progress.Answered → Converses input mid output told from after
    → Exchanges mid left told sent after next made → Converses input left output sent from next
converses-answered input mid left output told sent from after next made is before exchange =
    let one = subst (λ (p : Progress). Exchanges mid left told sent after next p) is exchange in
    converses-more input mid left output told sent from after next one.0 before one.1 one.2 one.3 one.4
