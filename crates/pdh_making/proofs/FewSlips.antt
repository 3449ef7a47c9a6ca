-- A line has fewer slips than the log counts.
use Rattle.std.proofs.Common.{◌*◌, ◌^◌, ◌<◌, ◌≤◌, List, length, lit<, arith}
use Rattle.std.proofs.Math.Nat.{mul-le-mul_left, mul-le-mul_right}
use Rattle.std.proofs.lemmas.List.{length-map}
use Rattle.pdh_shape.specs.OwnNumbers.{most_frames}
use Rattle.pdh_line.specs.Sending.Mode.{Slipping}
use Rattle.pdh_nesting.specs.Chains.{top_len}
use Rattle.pdh_nesting.specs.Slips.{slips_of}
use Rattle.pdh_nesting.proofs.FewEvents.{events_per_bit, few_below}
use Rattle.pdh_clock.specs.Row.{Row}
use Rattle.pdh_clock.specs.Contents.{counts}
use Rattle.pdh_chain.specs.Chains.{shapes_of}
use Rattle.pdh_chain.specs.Slipping.{slip_of}
use Rattle.pdh_chain.specs.declared.chain.Chain.{Chain}
use Rattle.pdh_chain.specs.declared.chain.Chain.TheVariants.{E12, E23, E34, E13, E24, E14, M12, M23, M13, C13}
use Rattle.pdh_making.specs.Schedules.{frames_in}
use Rattle.pdh_making.specs.Mux.{slips_in}

-- the slips of the longest line of each chain, by its frames' numbers
few_at_most : (chain : Chain) → events_per_bit (shapes_of chain) * (most_frames * top_len (shapes_of chain)) < 2 ^ 64
few_at_most E12 = lit< tt
few_at_most E23 = lit< tt
few_at_most E34 = lit< tt
few_at_most E13 = lit< tt
few_at_most E24 = lit< tt
few_at_most E14 = lit< tt
few_at_most M12 = lit< tt
few_at_most M23 = lit< tt
few_at_most M13 = lit< tt
few_at_most C13 = lit< tt

pub few_slips : (chain : Chain) (rows : List Row) → frames_in rows ≤ most_frames → length (slips_in chain rows) < 2 ^ 64
unfolding slips_in
few_slips chain rows few =
    let shapes = shapes_of chain in
    let events = slips_of shapes (counts rows) (frames_in rows) in
    let some : length events ≤ events_per_bit shapes * (frames_in rows * top_len shapes) = few_below Slipping shapes (counts rows) (frames_in rows * top_len shapes) in
    let most : events_per_bit shapes * (frames_in rows * top_len shapes) ≤ events_per_bit shapes * (most_frames * top_len shapes) = mul-le-mul_left (events_per_bit shapes) (mul-le-mul_right (top_len shapes) few) in
    omega (arith, length-map events slip_of, some, most, few_at_most chain)
