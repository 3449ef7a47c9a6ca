-- What a sender tells a log of slips, bit by bit and frame by frame.
use Rattle.std.proofs.Common.{◌≡◌, ℕ, ◌+◌, ◌-◌, ◌<◌, ◌≤◌, true, List, ◌++◌, sym, ap, ◌∙◌, subst, arith}
use Rattle.std.specs.Prelude.{flat_map}
use Rattle.std.specs.List.{range_with_len}
use Rattle.std.proofs.lemmas.Grind.{flat_map-append}
use Rattle.std.proofs.lemmas.List.{append-nil}
use Rattle.pdh_line.proofs.Ranges.{range_append}
use Rattle.pdh_slips.specs.declared.log.SlipLog as log
use Rattle.pdh_slips.specs.declared.slip.Slip.{Slip}
use Rattle.pdh_tx.specs.declared.tx.TxStop.{TxStop}
use Rattle.pdh_tx.specs.declared.tx.TxStop.TheVariants.{Overflow, Underflow, NoFrame, Failed, Ended, LogFailed}
use Rattle.pdh_tx.specs.Meaning.{Plan, Meaning, mode_of}
use Rattle.pdh_tx.specs.Making.{BringsNoSlip}
use Rattle.pdh_tx.specs.Telling.{TellsFront, TellsAll, TellsNone}
use Rattle.pdh_tx.proofs.Lists.{flat_nothing}
use Rattle.pdh_tx.proofs.Telling.{IsLog, all_join, front_join, front_more, front_none}
use Rattle.pdh_chain.specs.Slipping.{slips_over, mux_told}
use Rattle.pdh_chain.specs.Muxes.{mux_stop}

-- a log that failed takes slips
pub log_slips : {G : Type 0} (logs : log.Ghosts G) (a b : G) (slips : List Slip) (stop : TxStop) → TellsFront logs a b slips stop → stop ≡ LogFailed → mode_of logs.takes ≡ mode_of true
log_slips logs a b slips stop front is = (let failed = subst (λ stop. TellsFront logs a b slips stop) is front in ap mode_of failed.logs_them.takes)

-- the slips of more bits
pub slips-then : (m : Meaning) (plan : Plan) (x n k : ℕ) → slips_over m plan x (n + k) ≡ slips_over m plan x n ++ slips_over m plan (x + n) k
slips-then m plan x n k = ap (flat_map (m.slips plan)) (range_append x n k) ∙ flat_map-append (m.slips plan) (range_with_len x n) (range_with_len (x + n) k)

slips-one : (m : Meaning) (plan : Plan) (x : ℕ) → slips_over m plan x 1 ≡ m.slips plan x
slips-one m plan x = append-nil (m.slips plan x)

-- a log that was told of nothing was told of all slips of bits that bring none
pub none_told : {G : Type 0} (logs : log.Ghosts G) (m : Meaning) (plan : Plan) (x len : ℕ) (a b : G) → BringsNoSlip m plan x (x + len) → TellsNone logs a b → TellsAll logs a b (slips_over m plan x len)
none_told logs m plan x len a b none told = subst (λ slips. TellsAll logs a b slips) (sym (flat_nothing (m.slips plan) x len none)) told

module _ {G : Type 0} (logs : log.Ghosts G) (is : IsLog logs) (m now : Meaning) (plan : Plan) (x n k : ℕ) (same : now ≡ m) where
  -- behind the slips of n bits the log was told of those of so many more,
  pub then_told : (a b c : G) → TellsAll logs a b (slips_over m plan x n) → TellsAll logs b c (slips_over now plan (x + n) k) → TellsAll logs a c (slips_over m plan x (n + k))
  then_told a b c first second =
      let here : TellsAll logs b c (slips_over m plan (x + n) k) = subst (λ (m : Meaning). TellsAll logs b c (slips_over m plan (x + n) k)) same second in
      subst (λ slips. TellsAll logs a c slips) (sym (slips-then m plan x n k)) (all_join logs is a b c (slips_over m plan x n) (slips_over m plan (x + n) k) first here)

  -- or of the first of those of so many bits in all, where it stopped on the way
  pub then_stops : (len : ℕ) (a b c : G) (stop : TxStop) → n + k ≤ len → TellsAll logs a b (slips_over m plan x n) → TellsFront logs b c (slips_over now plan (x + n) k) stop → TellsFront logs a c (slips_over m plan x len) stop
  then_stops len a b c stop upto first second =
      let here : TellsFront logs b c (slips_over m plan (x + n) k) stop = subst (λ (m : Meaning). TellsFront logs b c (slips_over m plan (x + n) k) stop) same second in
      let rest : ℕ = len - (n + k) in
      let whole : n + k + rest ≡ len = omega (arith, upto) in
      let all : slips_over m plan x len ≡ (slips_over m plan x n ++ slips_over m plan (x + n) k) ++ slips_over m plan (x + (n + k)) rest =
      ap (slips_over m plan x) (sym whole) ∙ slips-then m plan x (n + k) rest ∙ ap (λ l. l ++ slips_over m plan (x + (n + k)) rest) (slips-then m plan x n k) in
      front_more logs a c (slips_over m plan x n ++ slips_over m plan (x + n) k) (slips_over m plan (x + (n + k)) rest) (slips_over m plan x len) stop all
      (front_join logs is a b c (slips_over m plan x n) (slips_over m plan (x + n) k) stop first here)

-- the same of bits that were made from the first on
module _ {G : Type 0} (logs : log.Ghosts G) (is : IsLog logs) (m now : Meaning) (plan : Plan) (n k : ℕ) (same : now ≡ m) where
  from_first : n ≡ 0 + n
  from_first = omega arith

  pub front_told : (a b c : G) → TellsAll logs a b (slips_over m plan 0 n) → TellsAll logs b c (slips_over now plan n k) → TellsAll logs a c (slips_over m plan 0 (n + k))
  front_told a b c first second = then_told logs is m now plan 0 n k same a b c first (subst (λ (y : ℕ). TellsAll logs b c (slips_over now plan y k)) from_first second)

  pub front_stops : (len : ℕ) (a b c : G) (stop : TxStop) → n + k ≤ len → TellsAll logs a b (slips_over m plan 0 n) → TellsFront logs b c (slips_over now plan n k) stop → TellsFront logs a c (slips_over m plan 0 len) stop
  front_stops len a b c stop upto first second = then_stops logs is m now plan 0 n k same len a b c stop upto first (subst (λ (y : ℕ). TellsFront logs b c (slips_over now plan y k) stop) from_first second)

-- one bit more
module _ {G : Type 0} (logs : log.Ghosts G) (is : IsLog logs) (m now : Meaning) (plan : Plan) (x n : ℕ) (same : now ≡ m) where
  pub more_told : (a b c : G) → TellsAll logs a b (slips_over m plan x n) → TellsAll logs b c (now.slips plan (x + n)) → TellsAll logs a c (slips_over m plan x (n + 1))
  more_told a b c first second = then_told logs is m now plan x n 1 same a b c first (subst (λ slips. TellsAll logs b c slips) (sym (slips-one now plan (x + n))) second)

  pub stop_told : (len : ℕ) (a b c : G) (stop : TxStop) → n < len → TellsAll logs a b (slips_over m plan x n) → TellsFront logs b c (now.slips plan (x + n)) stop → TellsFront logs a c (slips_over m plan x len) stop
  stop_told len a b c stop less first second =
      then_stops logs is m now plan x n 1 same len a b c stop (omega (arith, less)) first (subst (λ slips. TellsFront logs b c slips stop) (sym (slips-one now plan (x + n))) second)

-- a call of the port failed, where the log was told of all slips of the bits so far
pub port_failed : {G : Type 0} (logs : log.Ghosts G) (is : IsLog logs) (m : Meaning) (plan : Plan) (n len : ℕ) (a b : G) (stop : TxStop) → (stop ≡ LogFailed → ⊥) → n ≤ len → TellsAll logs a b (slips_over m plan 0 n) → TellsFront logs a b (slips_over m plan 0 len) stop
port_failed logs is m plan n len a b stop other upto all =
    let rest : ℕ = len - n in
    let whole : n + rest ≡ len = omega (arith, upto) in
    front_more logs a b (slips_over m plan 0 n) (slips_over m plan (0 + n) rest) (slips_over m plan 0 len) stop (ap (slips_over m plan 0) (sym whole) ∙ slips-then m plan 0 n rest)
    (front_none logs is a b (slips_over m plan 0 n) stop other all)

-- ---- how a whole chain tells it

-- what a sender met is told as what `mux_slips` met
pub retold : {G : Type 0} (logs : log.Ghosts G) (a b : G) (slips : List Slip) (stop : TxStop) → TellsFront logs a b slips stop → TellsFront logs a b slips (mux_told (mux_stop stop))
retold logs a b slips LogFailed front = front
retold logs a b slips Failed front = record { told = front.told; rest = front.rest; front = front.front; logs_them = front.logs_them; counted = front.counted }
retold logs a b slips (Overflow place) front = record { told = front.told; rest = front.rest; front = front.front; logs_them = front.logs_them; counted = front.counted }
retold logs a b slips (Underflow place) front = record { told = front.told; rest = front.rest; front = front.front; logs_them = front.logs_them; counted = front.counted }
retold logs a b slips (NoFrame node) front = record { told = front.told; rest = front.rest; front = front.front; logs_them = front.logs_them; counted = front.counted }
retold logs a b slips (Ended leaf) front = record { told = front.told; rest = front.rest; front = front.front; logs_them = front.logs_them; counted = front.counted }
