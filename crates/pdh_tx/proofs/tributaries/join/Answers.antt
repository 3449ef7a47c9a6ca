use Rattle.std.proofs.Common.{◌≡◌, [], ◌∷◌, ◌++◌, map, sym, ap, ◌∙◌, subst, append_assoc}
use Rattle.std.specs.Prelude.{All}
use Rattle.std.proofs.lemmas.List.{map-append}
use Rattle.pdh_tx.specs.Tributary.{child_in}
use Rattle.pdh_tx.proofs.Opening.{all_push}
use Rattle.pdh_tx.proofs.tributaries.join.Goals as goal

pub loop-child-preserved : goal.loop-child-preserved
loop-child-preserved g c =
    let steps = c.in-Some.ensures.steps in
    let items = c.in_ok-push.ensures.items in
    let inv = c.loop-child.invariant in
    let ts = c.loop-child.tributaries.items in
    let rest = c.next.new.self.rest.items in
    record {
      children = ap (λ l. map child_in l ++ rest) items ∙ ap (λ l. l ++ rest) (map-append child_in ts _) ∙ append_assoc (map child_in ts) (c.in-Some.child ∷ []) rest
          ∙ ap (λ l. map child_in ts ++ l) (sym steps.0) ∙ inv.children;
      empty = subst (All (λ tributary. tributary.store ≡ [])) (sym items) (all_push (λ tributary. tributary.store ≡ []) ts _ inv.empty c.in_ok-store.ensures);
    }
