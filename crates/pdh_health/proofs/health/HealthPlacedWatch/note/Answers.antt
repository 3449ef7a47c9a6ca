use Rattle.std.proofs.Common.{◌≡◌, ◌+◌, Bool, true, false, Option, Some, None, [], ◌∷◌, ◌++◌, length, refl, sym, ap, ◌∙◌, arith}
use Rattle.std.specs.Prelude.{if◌then◌else◌}
use Rattle.std.specs.List.{find}
use Rattle.std.specs.Option.{option_or}
use Rattle.std.proofs.lemmas.List.{length_push}
use Rattle.std.proofs.lemmas.List.Folds.{find-append}
use Rattle.std.proofs.lemmas.List.Sums.{fold_push}
use Rattle.pdh_placed.specs.declared.placed.Placed.{Placed}
use Rattle.pdh_health.specs.Lines.{is_trouble}
use Rattle.pdh_health.proofs.health.HealthPlacedWatch.note.Goals as goal

later : (own : Bool) (placed : Placed) (last : Option Placed) → option_or (if own then Some placed else None) last ≡ (if own then Some placed else last)
later true placed last = refl
later false placed last = refl

pub returns : goal.returns
returns c = λ rate plans past order stands.
    let placed = c.args.placed.now in
    let more : length (past ++ placed ∷ []) ≡ length past + 1 = length_push past placed in
    record {
      nodes_stand = c.note_each.ensures rate plans past stands.nodes_stand order;
      events_are = omega (arith, c.saturating_add-events.ensures, stands.events_are, more);
      first_is = c.or-first.ensures ∙ ap (λ (o : Option Placed). option_or o c.trouble_of-trouble.result) stands.first_is
          ∙ ap (λ (o : Option Placed). option_or (find is_trouble past) o) c.trouble_of-trouble.ensures ∙ sym (find-append is_trouble past (placed ∷ []));
      last_is = c.or-last.ensures ∙ ap (λ (o : Option Placed). option_or o c.args.self.now.last) c.trouble_of-trouble.ensures ∙ later (is_trouble placed) placed c.args.self.now.last
          ∙ ap (λ (o : Option Placed). if is_trouble placed then Some placed else o) stands.last_is
          ∙ sym (fold_push (λ (last : Option Placed) (p : Placed). if is_trouble p then Some p else last) None past placed);
    }
