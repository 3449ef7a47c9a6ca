-- The bits of one more tick.
use mathlib.Core.Path.{fun_ext}
use Rattle.std.proofs.Common.{◌≡◌, Bool, false, ◌||◌, List, [], ◌++◌, fold, ap, sym, ◌∙◌}
use Rattle.std.specs.List.{list_any}
use Rattle.std.proofs.lemmas.List.Sums.{fold-append}
use Rattle.pdh_shape.specs.Frame.{FrameShape}
use Rattle.pdh_line.specs.Paths.{top}
use Rattle.pdh_watch.specs.declared.kind.Kind.{Kind}
use Rattle.pdh_watch.specs.declared.event.Event.{Event}
use Rattle.pdh_events.specs.Chain.{bit_events, bits_events, chain_events}
use Rattle.pdh_events.specs.laws.QuietLaws.{events_join}
use Rattle.pdh_duplex.specs.declared.tally.Tally.{Tally}
use Rattle.pdh_duplex.specs.Top.{tells_error, count_of, is_aligned}
use Rattle.pdh_duplex.specs.Tallies.{aligned_with, counted_with, tally_with}
use Rattle.pdh_duplex.proofs.Aligned.{flag_bits}
use Rattle.pdh_duplex.proofs.TallyLaws.{aligned_is, error_is, counts_are}

-- the events that a receiver notes are those of the definition
pub events_noted : (shapes : List FrameShape) (notes : List Bool → Bool → List Event) (line bits : List Bool) → ((line : List Bool) (bit : Bool) → notes line bit ≡ bit_events shapes top line bit)
    → bits_events notes line bits ≡ bits_events (bit_events shapes top) line bits
events_noted shapes notes line bits same = ap (λ notes. bits_events notes line bits) (fun_ext (λ l. fun_ext (λ bit. same l bit)))

pub events_more : (shapes : List FrameShape) (got more : List Bool) → chain_events shapes (got ++ more) ≡ chain_events shapes got ++ bits_events (bit_events shapes top) got more
unfolding chain_events
events_more shapes got more = events_join (bit_events shapes top) [] got more

-- a count of some events, and of those of more bits
pub count_more : (kind : Kind) (shapes : List FrameShape) (got more : List Bool) → fold (counted_with kind) (count_of kind (chain_events shapes got)) (bits_events (bit_events shapes top) got more) ≡ count_of kind (chain_events shapes (got ++ more))
count_more kind shapes got more =
    let was : List Event = chain_events shapes got in
    let now : List Event = bits_events (bit_events shapes top) got more in
    ap (λ n. fold (counted_with kind) n now) (sym (counts_are kind was)) ∙ sym (fold-append (counted_with kind) 0 was now) ∙ counts_are kind (was ++ now) ∙ ap (count_of kind) (sym (events_more shapes got more))

-- whether an alignment holds then
pub aligned_more : (tally : Tally) (shapes : List FrameShape) (got more : List Bool) → tally.aligned ≡ is_aligned shapes got → (fold tally_with tally (bits_events (bit_events shapes top) got more)).aligned ≡ is_aligned shapes (got ++ more)
aligned_more tally shapes got more was =
    let now : List Event = bits_events (bit_events shapes top) got more in
    aligned_is tally now ∙ ap (λ flag. fold aligned_with flag now) was ∙ flag_bits shapes got more

-- whether the parity of a frame was wrong
pub error_more : (tally : Tally) (events : List Event) → tally.in_error ≡ false → (fold tally_with tally events).in_error ≡ list_any tells_error events
error_more tally events none = error_is tally events ∙ ap (λ b. b || list_any tells_error events) none
