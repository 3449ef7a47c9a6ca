-- What `mux` wrote, disturbed, gives each leaf's file back from a stated bit on.
use Rattle.std.proofs.Common.{◌≡◌, ℕ, ◌+◌, ◌-◌, ◌≤◌, List, Bool, Option, length, subst, arith}
use Rattle.pdh_bits.specs.Bits.{bits_of}
use Rattle.pdh_line.specs.Sending.{front}
use Rattle.pdh_line.proofs.SentFrames.{length-front}
use Rattle.pdh_nesting.specs.Sending.{content_of, line_with}
use Rattle.pdh_clock.specs.Contents.{counts}
use Rattle.pdh_recovery.specs.Recovering.{RejoinsList}
use Rattle.pdh_recovery.proofs.RecoverLaws.{rejoins_line}
use Rattle.pdh_chain.specs.declared.chain.Chain.{Chain}
use Rattle.pdh_chain.specs.Chains.{shapes_of}
use Rattle.pdh_chain.specs.Saying.{says_of}
use Rattle.pdh_making.specs.Schedules.{rows_in}
use Rattle.pdh_runner.specs.Operation.{Files}
use Rattle.pdh_making.specs.Mux.{leaf_bits, line_len}
use Rattle.pdh_ops.specs.Rejoined.{FileComesBack}

pub file_comes_back : (chain : Chain) (feac : Option ℕ) (files : Files) (line bent output : List ℕ) (leaf e u : ℕ) (quiet : List ℕ) → FileComesBack chain feac files line bent output leaf e u quiet
file_comes_back chain feac files line bent output leaf e u quiet =
    λ low wrote same comes down.
    let bits : ℕ = line_len chain (rows_in chain files) in
    let sent : ℕ → Bool = line_with (shapes_of chain) (counts (rows_in chain files)) (content_of (leaf_bits files) (says_of feac)) in
    let of_front : RejoinsList (bits_of bent) (front sent bits) e u = subst (λ l. RejoinsList (bits_of bent) l e u) wrote.bits same in
    let long : length (front sent bits) ≡ bits = length-front sent bits in
    let most : u + (length (bits_of bent) - e) ≤ bits = omega (arith, of_front.0, long) in
    comes (counts (rows_in chain files)) (leaf_bits files) (says_of feac) bits e u quiet wrote.none_empty (wrote.held leaf low) most (rejoins_line (bits_of bent) sent bits e u of_front) down
