-- A recording that was followed to its end.
use Rattle.std.proofs.Common.{◌≡◌, ℕ, ◌+◌, ◌<◌, ◌≤◌, ◌^◌, max, Bool, List, [], ◌++◌, length, map, Option, None, ◌∙◌, subst, arith, append-nil}
use Rattle.std.specs.declared.io.Write.{Ghosts as Writes}
use Rattle.csv.specs.declared.writer.Writer.{Writer}
use Rattle.csv.specs.Writing.{text_written}
use Rattle.pdh_health.specs.declared.plan.NodePlan.{NodePlan}
use Rattle.pdh_health.specs.Lines.{AreInOrder, StandsFor, IsFoundOfLine}
use Rattle.pdh_health.specs.Nodes.{last_place}
use Rattle.pdh_placed.specs.declared.placing.Placing.{Placing}
use Rattle.pdh_placed.specs.Lines.{LineMeaning}
use Rattle.pdh_placed.specs.Places.{placed_events}
use Rattle.pdh_following.specs.declared.line.Followed.{Followed}
use Rattle.pdh_following.specs.declared.teller.Teller.{Teller}
use Rattle.pdh_following.specs.Following.{line_events, Follows, IsFollowed}
use Rattle.pdh_following.specs.Numbers.{numbers_of}
use Rattle.pdh_following.specs.Rows.{header, rows_of, Gained, RowsSeen}
use Rattle.pdh_following.specs.Telling.{Begins, Told, Ends}
use Rattle.pdh_following.specs.laws.RowsSeen.{gained_both}
use Rattle.pdh_following.proofs.Order.{events_rise, events_within}

module _ {W : Type 0} {writes : Writes W} (contents : W → Option (List ℕ)) (meaning : LineMeaning) (rate from : ℕ) (plans : List NodePlan) (file : Option W) (bits : List Bool) where
  -- the events of a line of this beginning, with their places from the first bit on
  told_all : (given left : Option (List Bool)) (a b : Placing (Teller W writes)) → Begins contents rate from plans file a → Follows contents meaning.notes [] given left a b bits
      → Told contents a.watch b.watch (line_events meaning bits)
  told_all given left a b begins follows =
      let P : ℕ → Type 0 = λ n. Told contents a.watch b.watch (placed_events meaning.notes [] n bits) in
      subst P begins.place_is follows.told

  rows_all : (a b : Placing (Teller W writes)) (followed : Followed W) → Begins contents rate from plans file a → Told contents a.watch b.watch (line_events meaning bits) → b.watch.fault ≡ None
      → Gained (text_written contents) contents b.watch.rows followed.events [] → Gained contents contents file followed.events (header ++ rows_of rate from (line_events meaning bits))
  rows_all a b followed begins told written ended =
      let text : Writer W → Option (List ℕ) = text_written contents in
      let P : ℕ → Type 0 = λ n. RowsSeen contents n a.watch.from a.watch.rows b.watch.rows a.watch.fault b.watch.fault (line_events meaning bits) in
      let Q : ℕ → Type 0 = λ n. RowsSeen contents rate n a.watch.rows b.watch.rows a.watch.fault b.watch.fault (line_events meaning bits) in
      let rows : Q from = subst Q begins.from_is (subst P begins.rate_is told.rows) in
      let all = gained_both contents text text file a.watch.rows b.watch.rows header (rows_of rate from (line_events meaning bits)) begins.rows_are (rows.written written) in
      let R : List ℕ → Type 0 = λ l. Gained contents contents file followed.events l in
      subst R (append-nil (header ++ rows_of rate from (line_events meaning bits)))
      (gained_both contents text contents file b.watch.rows followed.events (header ++ rows_of rate from (line_events meaning bits)) [] all ended)

  health_all : (stands : List Bool → Type 0) (a b : Placing (Teller W writes)) (followed : Followed W) → Begins contents rate from plans file a → Told contents a.watch b.watch (line_events meaning bits)
      → Ends contents meaning.counted stands b followed → stands bits → b.place ≡ length bits → length (line_events meaning bits) < 2 ^ 63
      → IsFoundOfLine rate (max (length bits) 1) plans (map numbers_of (meaning.counted bits)) (line_events meaning bits) followed.line.health
  health_all stands a b followed begins told ends stood place few =
      let order : AreInOrder (line_events meaning bits) = record { rise = events_rise meaning.notes [] 0 0 bits (omega arith); few = few } in
      let health : StandsFor b.watch.health rate plans (line_events meaning bits) = told.health rate plans [] order begins.health_stands in
      let some : 0 < max b.place 1 = omega arith in
      let room : 0 + length bits ≤ max b.place 1 = omega (arith, place) in
      let within : last_place (line_events meaning bits) < max b.place 1 = events_within meaning.notes [] 0 0 (max b.place 1) bits some room in
      let P : ℕ → Type 0 = λ n. IsFoundOfLine rate (max n 1) plans (map numbers_of (meaning.counted bits)) (line_events meaning bits) followed.line.health in
      subst P place (ends.health bits rate plans (line_events meaning bits) stood health order within)

  pub followed_all : (given left : Option (List Bool)) (stands : List Bool → Type 0) (a b : Placing (Teller W writes)) (followed : Followed W) → Begins contents rate from plans file a
      → Follows contents meaning.notes [] given left a b bits → b.watch.fault ≡ None → Ends contents meaning.counted stands b followed → stands bits
      → IsFollowed contents meaning rate from plans file bits followed
  followed_all given left stands a b followed begins follows written ends stood =
      let told : Told contents a.watch b.watch (line_events meaning bits) = told_all given left a b begins follows in
      let start : a.place ≡ 0 = begins.place_is in
      let grown : b.place ≡ a.place + length bits = follows.place in
      let place : b.place ≡ length bits = omega (arith, start, grown) in
      record {
        count = ends.count ∙ place;
        rows = rows_all a b followed begins told written ends.rows;
        health = health_all stands a b followed begins told ends stood place;
      }
