-- Children that get all their bits of what is loaded, one after another, since there is room for them: they bring no event, so it's as if
-- each bit came in its turn.
use Rattle.std.proofs.Common.{◌≡◌, inl, inr, ℕ, ◌+◌, ◌<◌, ◌≤◌, Bool, true, false, cond, List, [], length, Option, sym, ap, ◌∙◌, arith}
use Rattle.std.specs.Prelude.{◌⊎◌}
use Rattle.std.proofs.lemmas.List.{length-replicate}
use Rattle.std.proofs.lemmas.Bool.{cases_lt, lt-ltb, le-ltb}
use Rattle.pdh_shape.specs.Frame.{FrameShape}
use Rattle.pdh_shape.specs.Tributary.{carries_more, stripped, HasTributaries}
use Rattle.pdh_watch.specs.declared.event.Event.{Event}
use Rattle.pdh_edge.specs.Ports.{Outputs}
use Rattle.pdh_runs.proofs.TakingLaws.{length-stripped, few_bits}
use Rattle.pdh_events.specs.laws.ActsLaws.{bits_to}
use Rattle.pdh_rx.specs.Meaning.{Meaning}
use Rattle.pdh_rx.specs.Node.{Plays}
use Rattle.pdh_rx.specs.Places.{places_acts, loaded_bits, loaded_most}
use Rattle.pdh_rx.specs.Merging.{first_bits, FirstGot}
use Rattle.pdh_rx.proofs.Playing.{SawJoins}
use Rattle.pdh_rx.proofs.Ahead.{ahead_gives, ahead_all}
use Rattle.pdh_rx.proofs.Places.{places_give}
use Rattle.pdh_rx.proofs.DueLaws.{AreAll, none_beyond}

-- all tributaries have got their bits: what is loaded was played, whoever watches
pub first_all : {C W : Type 0} (stands : C → List Bool → Type 0) (saw : W → List Event → W → Type 0) → SawJoins saw → (ms : List Meaning) (bits : ℕ → List Bool) (tribs : ℕ) (cell : ℕ → Option Bool) (end : ℕ) → (0 < tribs) ⊎ (end ≡ 0) → AreAll tribs cell end bits
    → (xs ys : List C) (o p : Outputs) (w : W) → saw w [] w → FirstGot stands ms bits tribs xs ys o p → Plays stands saw ms (places_acts tribs cell 0 end) xs ys o p w w
first_all stands saw joins ms bits tribs cell end some all xs ys o p w seen f =
    ahead_all stands saw joins ms [] (places_acts tribs cell 0 end) (first_bits bits tribs) xs ys o p w w (places_give tribs cell 0 end) is (ahead_gives stands saw joins ms bits tribs xs ys o p w seen f)
  where
    is : (j : ℕ) → first_bits bits tribs j ≡ bits_to (places_acts tribs cell 0 end) j
    is j = elim (cases_lt j tribs) [
      | inl less ↦ ap (λ b. cond b (bits j) []) (lt-ltb j tribs less) ∙ all j less
      | inr more ↦ ap (λ b. cond b (bits j) []) (le-ltb j tribs more) ∙ sym (none_beyond tribs cell j 0 end some more)
    ]

-- a tributary gets at most so many
pub loaded_few : (s : FrameShape) (gap : Bool) (frame : List Bool) (j : ℕ) → HasTributaries s → j < s.tribs → length (loaded_bits s gap frame j) ≤ loaded_most s gap
loaded_few s true frame j has known = omega (arith, length-replicate s.low true)
loaded_few s false frame j has known = few_bits (carries_more s j frame) (length (stripped s j frame)) s.low (length-stripped s j frame has known)

pub most_few : (s : FrameShape) (gap : Bool) (n : ℕ) → s.low ≡ n → loaded_most s gap ≤ n + 1
most_few s true n e = omega (arith, e)
most_few s false n e = omega (arith, e)
