-- What is told of events that come one after the other.
use Rattle.std.specs.Prelude.{ℕ, List, [], ◌++◌, Option}
use Rattle.std.proofs.Common.{refl, ◌∙◌, subst}
use Rattle.std.specs.declared.io.Write.{Ghosts as Writes}
use Rattle.pdh_health.specs.LineLaws.{saw_none, saw_joined}
use Rattle.pdh_placed.specs.declared.placed.Placed.{Placed}
use Rattle.pdh_following.specs.declared.teller.Teller.{Teller}
use Rattle.pdh_following.specs.Rows.{RowsSeen}
use Rattle.pdh_following.specs.Telling.{Told}
use Rattle.pdh_following.specs.laws.RowsSeen.{rows_none, rows_both}

pub told_none : {W : Type 0} {writes : Writes W} (contents : W → Option (List ℕ)) (a : Teller W writes) → Told contents a a []
told_none contents a = record {
  rate = refl;
  from = refl;
  health = saw_none a.health;
  rows = rows_none contents a.rate a.from a.rows a.fault;
}

pub told_both : {W : Type 0} {writes : Writes W} (contents : W → Option (List ℕ)) (a b c : Teller W writes) (xs ys : List Placed)
    → Told contents a b xs → Told contents b c ys → Told contents a c (xs ++ ys)
told_both contents a b c xs ys f g =
    let later = subst (λ (rate : ℕ). RowsSeen contents rate b.from b.rows c.rows b.fault c.fault ys) f.rate g.rows in
    let same = subst (λ (from : ℕ). RowsSeen contents a.rate from b.rows c.rows b.fault c.fault ys) f.from later in
    record {
      rate = g.rate ∙ f.rate;
      from = g.from ∙ f.from;
      health = saw_joined a.health b.health c.health xs ys f.health g.health;
      rows = rows_both contents a.rate a.from a.rows b.rows c.rows a.fault b.fault c.fault xs ys f.rows same;
    }
