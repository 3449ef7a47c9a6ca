use Rattle.std.proofs.Common.{◌≡◌, ◌-◌, ℕ, List, Bool, subst, arith}
use Rattle.std.specs.Prelude.{Result, Ok, OnOk}
use Rattle.pdh_g706.specs.Tracking.{multiframes_in}
use Rattle.pdh_g706.specs.Machine.{turn}
use Rattle.pdh_g706.specs.View.{phase, Becomes}
use Rattle.pdh_e1_judging.proofs.PushLaws.{exact}
use Rattle.pdh_e1_judging.proofs.judge.Judging.turn.Goals as goal

-- what a call does that came out well
ok_of : {T E : Type 0} (result : Result T E) (value : T) (P : Type 0) → result ≡ Ok value → OnOk result P → P
ok_of {T} {E} result value P is told = let Q : Result T E → Type 0 = λ r. OnOk r P in subst Q is told

pub turn-requires-clause-fits : goal.turn-requires-clause-fits
turn-requires-clause-fits c = c.requires.follows.1.fits

pub returns-clause-count : goal.returns-clause-count
returns-clause-count c =
    let old = c.args.self.now.align in
    let line : List Bool = c.requires.follows.0 in
    let n : ℕ = multiframes_in line in
    let b = ok_of c.turn.result _ (Becomes (turn (phase old) c.args.bit) old c.turn.new.self) c.in-Ok.is c.turn.ensures.becomes in
    let now = b.counts.multiframes_are n c.requires.follows.3 in
    omega (arith, c.delivered.ensures, c.delivered-was.ensures, now, c.requires.follows.3, exact (phase old) line c.args.bit c.requires.follows.1 c.requires.follows.2)

pub returns-clause-phase : goal.returns-clause-phase
returns-clause-phase c =
    let old = c.args.self.now.align in
    (ok_of c.turn.result _ (Becomes (turn (phase old) c.args.bit) old c.turn.new.self) c.in-Ok.is c.turn.ensures.becomes).phase_is

pub returns-clause-room : goal.returns-clause-room
returns-clause-room c =
    let old = c.args.self.now.align in
    (ok_of c.turn.result _ (Becomes (turn (phase old) c.args.bit) old c.turn.new.self) c.in-Ok.is c.turn.ensures.becomes).room

pub returns-clause-counts : goal.returns-clause-counts
returns-clause-counts c line counts =
    let old = c.args.self.now.align in
    (ok_of c.turn.result _ (Becomes (turn (phase old) c.args.bit) old c.turn.new.self) c.in-Ok.is c.turn.ensures.becomes).counts.multiframes_are (multiframes_in line) counts
