-- Worked slips of chains, and what they do to the leaves, computed by the checker.
use Rattle.std.specs.Prelude.{◌≡◌, ℕ, true, false, ◌==◌, ◌&&◌, nat_le, nat_lt, if◌then◌else◌, [], ◌∷◌, ◌++◌, map, replicate, refl}
use Rattle.std.specs.List.{range_with_len}
use Rattle.pdh_shape.specs.Frame.{idle}
use Rattle.pdh_eframes.specs.Sets.{set_role}
use Rattle.pdh_eframes.specs.Plans.{e2, e3}
use Rattle.pdh_line.specs.Progress.{arrived}
use Rattle.pdh_line.specs.Sending.Mode.{Slipping}
use Rattle.pdh_line.specs.Sending.{start_of, odd_before, line_bit}
use Rattle.pdh_line.specs.Events.{Event}
use Rattle.pdh_line.specs.Events.Kind.{Overflow, Underflow}
use Rattle.pdh_line.specs.Nodes.{Counts, leaf_node}
use Rattle.pdh_nesting.specs.Chains.{numbers_of}
use Rattle.pdh_nesting.specs.Sending.{Content, line_in, chain_line}
use Rattle.pdh_nesting.specs.Events.{events_in}
use Rattle.pdh_nesting.specs.Slips.{leaf_edits, slipped, is_above}
use Rattle.pdh_nesting.specs.StepOrder.{keyed_in}
use Rattle.pdh_nesting.proofs.KnownChains.{locked_e2}
use Rattle.pdh_nesting.proofs.WorkedEvents.{silent_first}

-- ---- one node, of whose first tributary 300 bits arrive: its 48 ones from bit 102 on are taken out

abbrev crowded_first : Counts
crowded_first path j n = (if j == 0 then 300 else 206)

unfoldable pub ones_inside : Content
ones_inside = record { bits = λ leaf i. (leaf == 0) && (nat_le 102 i && nat_lt i 150); says = λ n. idle }

unfoldable pub crowded_slip : Event
crowded_slip = record { kind = Overflow; path = []; trib = 0; frame = 0; slot = 426 }

pub crowded_in : map (events_in Slipping (e2 ∷ []) crowded_first []) (425 ∷ 426 ∷ 427 ∷ []) ≡ [] ∷ (crowded_slip ∷ []) ∷ [] ∷ []
unfolding crowded_slip events_in start_of arrived set_role
crowded_in = refl

-- its list is that of an overflow
pub crowded_keyed : keyed_in Slipping (e2 ∷ []) crowded_first [] 426 ≡ (1 ∷ 1 ∷ [], crowded_slip) ∷ []
unfolding crowded_slip keyed_in start_of arrived set_role
crowded_keyed = refl

-- around the slip the line has no one
pub crowded_line : map (line_in Slipping (e2 ∷ []) crowded_first ones_inside) (range_with_len 424 120) ≡ replicate 120 false
unfolding ones_inside chain_line line_bit odd_before start_of arrived set_role
crowded_line = refl

-- its leaf is left 252 of 300 bits, without the ones
pub crowded_list : slipped (e2 ∷ []) crowded_first 848 0 (replicate 102 false ++ replicate 48 true ++ replicate 150 false) ≡ replicate 252 false
unfolding leaf_edits start_of arrived set_role
crowded_list = refl

-- ---- E2 nodes below a node, where the first tributary of the first E2 node brings nothing

abbrev silent_slip : ℕ → Event
silent_slip slot = record { kind = Underflow; path = 1 ∷ []; trib = 0; frame = 0; slot = slot }

-- its store slips in slots 204, 400 and 596 of its first frame; the third of them is in making a bit of the top's second frame
pub silent_slips : map (events_in Slipping (e3 ∷ e2 ∷ []) silent_first []) (639 ∷ 640 ∷ 1438 ∷ 2236 ∷ []) ≡ (silent_slip 204 ∷ []) ∷ [] ∷ (silent_slip 400 ∷ []) ∷ (silent_slip 596 ∷ []) ∷ []
unfolding silent_first events_in start_of arrived set_role
silent_slips = refl

pub silent_slip_keyed : keyed_in Slipping (e3 ∷ e2 ∷ []) silent_first [] 2236 ≡ (1 ∷ 1 ∷ 596 ∷ 1 ∷ 5 ∷ [], silent_slip 596) ∷ []
unfolding silent_first keyed_in start_of arrived set_role
silent_slip_keyed = refl

-- below a node without stores as well
pub locked_slip : events_in Slipping (locked_e2 ∷ e2 ∷ []) silent_first [] 844 ≡ silent_slip 204 ∷ []
unfolding silent_first events_in start_of arrived set_role
locked_slip = refl

-- it is a leaf that slips, and no node: each four slips bring four times 48 ones behind its 48 bits
pub silent_above : map (λ leaf. is_above (silent_slip 204) (leaf_node (numbers_of (e3 ∷ e2 ∷ [])) leaf)) (range_with_len 0 16) ≡ replicate 16 false
silent_above = refl

pub silent_edits : leaf_edits (e3 ∷ e2 ∷ []) silent_first [] 3072 0 ≡ map (λ place. record { over = false; place = place }) (48 ∷ 96 ∷ 144 ∷ 192 ∷ [])
unfolding silent_first leaf_edits start_of arrived set_role
silent_edits = refl

pub silent_list : slipped (e3 ∷ e2 ∷ []) silent_first 3072 0 (replicate 48 false) ≡ replicate 48 false ++ replicate 192 true
unfolding silent_first leaf_edits start_of arrived set_role
silent_list = refl

-- another leaf of the same node is as it was
pub silent_other : leaf_edits (e3 ∷ e2 ∷ []) silent_first [] 3072 1 ≡ []
unfolding silent_first leaf_edits start_of arrived set_role
silent_other = refl

-- ---- a slip of the E3 node's second tributary stands above the leaves of the second E2 node

pub above_leaves : map (λ leaf. is_above (record { kind = Overflow; path = []; trib = 1; frame = 0; slot = 0 }) (leaf_node (numbers_of (e3 ∷ e2 ∷ [])) leaf)) (range_with_len 0 16)
    ≡ replicate 4 false ++ replicate 4 true ++ replicate 8 false
above_leaves = refl
