-- Worked examples of events in chains and of the order of their lists, computed by the checker.
use Rattle.std.proofs.Common.{◌≡◌, ℕ, ◌*◌, true, false, [], ◌∷◌, None, Some, map, refl, arith}
use Rattle.std.specs.Prelude.{◌==◌, ◌&&◌, if◌then◌else◌}
use Rattle.pdh_eframes.specs.Sets.{set_role}
use Rattle.pdh_eframes.specs.Plans.{e2, e3}
use Rattle.pdh_line.specs.Progress.{arrived}
use Rattle.pdh_line.specs.Sending.Mode.{Plain}
use Rattle.pdh_line.specs.Sending.{sent, begun, given}
use Rattle.pdh_line.specs.Events.{Event}
use Rattle.pdh_line.specs.Events.Kind.{Overflow, Underflow}
use Rattle.pdh_line.specs.Nodes.{Counts}
use Rattle.pdh_line.proofs.WithinTolerance.{within-each}
use Rattle.pdh_nesting.specs.Sending.{AllWithin}
use Rattle.pdh_nesting.specs.Events.{events_in, events_below, first_event}
use Rattle.pdh_nesting.specs.StepOrder.{comes_before, keyed_in}
use Rattle.pdh_nesting.proofs.KnownChains.{locked_e2, e3_e2_known}
use Rattle.pdh_nesting.proofs.NoEvents.{first_event-none}

-- the smaller number first, and of two lists of which one begins the other the longer
pub orders : comes_before (5 ∷ 0 ∷ 9 ∷ []) (5 ∷ 1 ∷ []) ≡ true
orders = refl

pub longer_first : comes_before (5 ∷ 1 ∷ 2 ∷ 7 ∷ 1 ∷ 3 ∷ []) (5 ∷ 1 ∷ 2 ∷ []) ≡ true
longer_first = refl

pub shorter_later : comes_before (5 ∷ 1 ∷ 2 ∷ []) (5 ∷ 1 ∷ 2 ∷ 7 ∷ 1 ∷ 3 ∷ []) ≡ false
shorter_later = refl

-- ---- one node

-- where all four tributaries bring 848 bits in frame 0, a bit a slot, the last one overflows first: the others were read before
pub all_overflow : first_event (e2 ∷ []) (λ path j n. 848) 1 ≡ Some (record { kind = Overflow; path = []; trib = 3; frame = 0; slot = 59 })
unfolding events_below events_in sent arrived set_role
all_overflow = refl

-- where the first alone brings 848, it overflows a slot later
pub first_overflows : first_event (e2 ∷ []) (λ path j n. (if j == 0 then 848 else 206)) 1 ≡ Some (record { kind = Overflow; path = []; trib = 0; frame = 0; slot = 60 })
unfolding events_below events_in sent arrived set_role
first_overflows = refl

-- where the first brings nothing, its lead of 48 bits is used up at its 49th slot
pub first_underflows : first_event (e2 ∷ []) (λ path j n. (if j == 0 then 0 else 206)) 1 ≡ Some (record { kind = Underflow; path = []; trib = 0; frame = 0; slot = 204 })
unfolding events_below events_in sent arrived set_role
first_underflows = refl

-- ---- nodes below a node

-- E3 over E2, where the first tributary of the first E2 node brings nothing and all others the least
unfoldable pub silent_first : Counts
silent_first [] j n = 377
silent_first (a ∷ []) j n = (if (a == 1) && (j == 0) then 0 else 205)
silent_first (a ∷ b ∷ path) j n = 0

unfoldable pub silent_underflow : Event
silent_underflow = record { kind = Underflow; path = 1 ∷ []; trib = 0; frame = 0; slot = 204 }

-- Its 48 bits are used up at its 49th slot, slot 204 of the E2 node: bit 156 after the E3 node's lead. That bit arrives in
-- slot 639 of the E3 frame: 157 times 1536 is more than 639 times 377, and no more than 640 times 377.
pub silent_in : events_in Plain (e3 ∷ e2 ∷ []) silent_first [] 639 ≡ silent_underflow ∷ []
unfolding silent_first silent_underflow events_in sent arrived set_role
silent_in = refl

-- its list, below the top's bit: the arrival of bit 204 of the first E2 node, and the step after the four arrivals
pub silent_keyed : keyed_in Plain (e3 ∷ e2 ∷ []) silent_first [] 639 ≡ (1 ∷ 1 ∷ 204 ∷ 1 ∷ 5 ∷ [], silent_underflow) ∷ []
unfolding silent_first silent_underflow keyed_in sent arrived set_role
silent_keyed = refl

-- the bit before has none
pub silent_before : events_in Plain (e3 ∷ e2 ∷ []) silent_first [] 638 ≡ []
unfolding silent_first events_in sent arrived set_role
silent_before = refl

-- ---- E2 nodes below a node without stores

-- slot 12 is the first that reads its first tributary, and each frame reads 205 bits of it, whatever arrives
pub locked_gives : map (given locked_e2 0 (λ n. 1000)) (0 ∷ 12 ∷ 13 ∷ 848 ∷ 860 ∷ 861 ∷ []) ≡ 0 ∷ 0 ∷ 1 ∷ 205 ∷ 205 ∷ 206 ∷ []
unfolding set_role
locked_gives = refl

-- its first slot belongs to the alignment signal: it reads nothing, and no lead is taken
pub locked_first : events_in Plain (locked_e2 ∷ e2 ∷ []) silent_first [] 0 ≡ []
unfolding silent_first events_in set_role
locked_first = refl

-- the event of the first E2 node, in making its bit 204: the node above reads 205 bits of it in a frame, and so the last
-- of its information slots reads this one
pub locked_in : events_in Plain (locked_e2 ∷ e2 ∷ []) silent_first [] 844 ≡ silent_underflow ∷ []
unfolding silent_first silent_underflow events_in sent arrived set_role
locked_in = refl

-- its list is that of a bit that arrives
pub locked_keyed : keyed_in Plain (locked_e2 ∷ e2 ∷ []) silent_first [] 844 ≡ (1 ∷ 1 ∷ 204 ∷ 1 ∷ 5 ∷ [], silent_underflow) ∷ []
unfolding silent_first silent_underflow keyed_in sent arrived set_role
locked_keyed = refl

-- it is the first event of the chain's first frame
pub locked_before : events_below Plain (locked_e2 ∷ e2 ∷ []) silent_first 844 ≡ []
unfolding silent_first events_below events_in sent arrived set_role
locked_before = refl

-- ---- E3 over E2 where each frame brings the least that it carries

unfoldable pub least_each : Counts
least_each [] j n = 377
least_each (a ∷ path) j n = 205

-- each tributary is within the tolerance, over any number of frames,
pub least-within : (x : ℕ) → AllWithin (e3 ∷ e2 ∷ []) least_each [] x
unfolding least_each AllWithin
least-within x =
    λ j known. (
      λ stores. within-each e3 (λ n. 377) (begun e3 x) (λ n. omega arith) (λ n. omega arith),
      λ i known'. (λ stores. within-each e2 (λ n. 205) (begun e2 (given e3 j (λ n. 377) x)) (λ n. omega arith) (λ n. omega arith), tt),
    )

-- so no run has an event
pub least-none : (frames : ℕ) → first_event (e3 ∷ e2 ∷ []) least_each frames ≡ None
least-none frames = first_event-none (e3 ∷ e2 ∷ []) least_each frames e3_e2_known.0 e3_e2_known.1 (least-within (frames * 1536))
