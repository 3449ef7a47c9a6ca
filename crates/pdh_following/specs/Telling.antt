-- What is told of events: to the health of the nodes, and as rows.
use Rattle.std.specs.Prelude.{◌≡◌, ℕ, ◌<◌, max, Bool, List, [], map, Option, None}
use Rattle.std.specs.declared.io.Write.{Ghosts as Writes}
use Rattle.csv.specs.Writing.{text_written}
use Rattle.pdh_rx.specs.declared.counts.NodeCounts.{NodeCounts}
use Rattle.pdh_health.specs.declared.plan.NodePlan.{NodePlan}
use Rattle.pdh_health.specs.Nodes.{last_place}
use Rattle.pdh_health.specs.Lines.{AreInOrder, Saw, StandsFor, IsFoundOfLine}
use Rattle.pdh_placed.specs.declared.placed.Placed.{Placed}
use Rattle.pdh_placed.specs.declared.placing.Placing.{Placing}
use Rattle.pdh_following.specs.declared.line.Followed.{Followed}
use Rattle.pdh_following.specs.declared.teller.Teller.{Teller}
use Rattle.pdh_following.specs.Numbers.{numbers_of}
use Rattle.pdh_following.specs.Rows.{header, Gained, RowsSeen}

-- what sees the events of a line, before its first bit: nothing was told yet, and the file, if there is one, has the header
pub record Begins {W : Type 0} {writes : Writes W} (contents : W → Option (List ℕ)) (rate from : ℕ) (plans : List NodePlan) (file : Option W) (watch : Placing (Teller W writes)) : Type 0 where
  pub place_is : watch.place ≡ 0
  pub rate_is : watch.watch.rate ≡ rate
  pub from_is : watch.watch.from ≡ from
  pub health_stands : StandsFor watch.watch.health rate plans []
  pub rows_are : Gained contents (text_written contents) file watch.watch.rows header
  pub written : watch.watch.fault ≡ None

-- what saw these events showed each to the health of the nodes, and wrote its row, if every row could be written
pub record Told {W : Type 0} {writes : Writes W} (contents : W → Option (List ℕ)) (old new : Teller W writes) (events : List Placed) : Type 0 where
  pub rate : new.rate ≡ old.rate
  pub from : new.from ≡ old.from
  pub health : Saw old.health events new.health
  pub rows : RowsSeen contents old.rate old.from old.rows new.rows old.fault new.fault events

-- What was found of a line by what saw its events: of a line that stands for some bits, and whose nodes count something by bits.
pub record Ends {W : Type 0} {writes : Writes W} (contents : W → Option (List ℕ)) (counted : List Bool → List NodeCounts) (stands : List Bool → Type 0) (watch : Placing (Teller W writes)) (followed : Followed W) : Type 0 where
  pub count : followed.line.bits ≡ watch.place
  pub rows : Gained (text_written contents) contents watch.watch.rows followed.events []
  pub health : (bits : List Bool) (rate : ℕ) (plans : List NodePlan) (events : List Placed) → stands bits → StandsFor watch.watch.health rate plans events → AreInOrder events
      → last_place events < max watch.place 1 → IsFoundOfLine rate (max watch.place 1) plans (map numbers_of (counted bits)) events followed.line.health
