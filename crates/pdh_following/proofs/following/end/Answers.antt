use Rattle.std.proofs.Common.{rules, ◌≡◌, ℕ, ◌<◌, max, List, refl, sym, ◌∙◌, subst}
use Rattle.pdh_health.specs.declared.node_health.NodeNumbers.{NodeNumbers}
use Rattle.pdh_health.specs.Lines.{IsFoundOfLine}
use Rattle.pdh_health.specs.Nodes.{last_place}
use Rattle.pdh_following.proofs.following.end.Goals as goal

pub returns : goal.returns
returns g c =
    let most : c.max.result ≡ max c.args.watch.place 1 = search rules in
    let health = c.in_ok-health.health in
    record {
      count = refl;
      rows = c.in_ok-events.ensures;
      health = λ bits rate plans events stood stands order within.
          let B : ℕ → Type 0 = λ n. IsFoundOfLine rate n plans c.deref.result.now events health in
          let N : List NodeNumbers → Type 0 = λ numbers. IsFoundOfLine rate (max c.args.watch.place 1) plans numbers events health in
          let P : ℕ → Type 0 = λ n. last_place events < n in
          let found = c.in_ok-health.ensures rate plans events stands order (subst P (sym most) within) in
          subst N (c.deref.ensures.value ∙ c.in_ok-numbers.ensures bits stood) (subst B most found);
    }
