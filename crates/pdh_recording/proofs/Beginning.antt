-- Where the bits of a recording begin.
use Rattle.std.proofs.Common.{◌≡◌, ℕ, ◌+◌, ◌/◌, ◌%◌, ◌≤◌, Bool, List, ◌++◌, length, take, drop, Option, None, Some, option_map, sym, subst, ap, ◌∙◌, arith, length-append, length-take}
use Rattle.std.proofs.Math.Seq.{drop-append-add}
use Rattle.std.specs.Io.KnownBytes.{Consumes}
use Rattle.std.proofs.KnownBytes.{Consumes-trans}
use Rattle.pdh_readings.specs.Orders.{read_as}
use Rattle.pdh_readings.specs.declared.bit_order.BitOrder.{BitOrder}
use Rattle.pdh_recording.specs.Given.{recorded}
use Rattle.pdh_recording.specs.Opening.{BeginsAt, Passes}
use Rattle.pdh_recording.proofs.Blocks.{read_joined, read_length}

-- the bits behind whole bytes that were passed over
behind : (order : BitOrder) (from : ℕ) (passed rest : List ℕ) → length passed ≡ from / 8 → drop (from % 8) (read_as order rest) ≡ drop from (read_as order (passed ++ rest))
behind order from passed rest whole =
    let first = read_as order passed in
    let place : length first + from % 8 ≡ from = omega (arith, read_length order passed, whole) in
    sym (drop-append-add first (read_as order rest) (from % 8)) ∙ ap (λ (n : ℕ). drop n (first ++ read_as order rest)) place
    ∙ ap (drop from) (sym (read_joined order passed rest))

known_behind : (order : BitOrder) (from most : ℕ) (old new : Option (List ℕ)) → Passes old new (from / 8) → BeginsAt order from most old (option_map (recorded order (from % 8) most) new)
known_behind order from most None new passes = tt
known_behind order from most (Some xs) None passes = absurd passes.2
known_behind order from most (Some xs) (Some ys) passes =
    ap (λ (l : List Bool). Some (take most l)) (behind order from passes.0 ys passes.1 ∙ ap (λ (l : List ℕ). drop from (read_as order l)) (sym passes.2))

-- a reader that lost the bytes before a bit gives the bits from that on
pub begins_behind : (order : BitOrder) (from most wanted : ℕ) (old new : Option (List ℕ)) (given : Option (List Bool)) → given ≡ option_map (recorded order (from % 8) most) new → most ≡ wanted → Passes old new (from / 8)
    → BeginsAt order from wanted old given
begins_behind order from most wanted old new given made same passes =
    subst (λ (n : ℕ). BeginsAt order from n old given) same (subst (BeginsAt order from most old) (sym made) (known_behind order from most old new passes))

-- more bytes of a reader are passed over
pub passes_more : (a b c : Option (List ℕ)) (n m : ℕ) (bytes : List ℕ) → m ≤ length bytes → Passes a b n → Consumes b c (take m bytes) → Passes a c (n + m)
passes_more a b c n m bytes few before read =
    let long : length (before.0 ++ take m bytes) ≡ n + m = omega (arith, length-append before.0 (take m bytes), length-take m bytes, before.1, few) in
    (before.0 ++ take m bytes, long, Consumes-trans a b c before.0 (take m bytes) before.2 read)
