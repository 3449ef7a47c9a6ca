-- The schedule of a drill.
use mathlib.Core.Path.{fun_ext}
use Rattle.std.proofs.Common.{◌≡◌, ℕ, List, [], All, Result, Ok, Err, IfOk, slice_index, ap, ◌∙◌, subst}
use Rattle.std.specs.Prelude.{IsNone}
use Rattle.std.specs.List.{slice_index_or}
use Rattle.std.specs.declared.alloc.AllocError.{AllocError}
use Rattle.pdh_shape.specs.declared.place.Level.{Level}
use Rattle.pdh_clock.specs.declared.bias.Bias.TheVariants.{Mixed}
use Rattle.pdh_clock.specs.Begun.{shortage}
use Rattle.pdh_clock.specs.Contents.{Contents, IsRowOf, frames_of, frame_count}
use Rattle.pdh_clock.specs.Made.{made}
use Rattle.pdh_chain.specs.Chains.{levels_of}
use Rattle.pdh_chain.specs.declared.chain.Chain.{Chain}
use Rattle.pdh_patterns.specs.Leaves.{made_counts, IsClockOf}

-- what is made of a chain's levels is its schedule
pub made_clock : (chain : Chain) (frames : ℕ) (levels : List Level) (made_one : Result Contents AllocError) → levels ≡ levels_of chain → IfOk made_one (λ clock. clock.levels ≡ levels)
    → IfOk made_one (λ clock. (path : List ℕ) → frames_of clock.rows path ≡ made levels Mixed frames path) → IfOk made_one (λ clock. All (IsRowOf levels) clock.rows)
    → IfOk made_one (λ clock. frame_count clock.rows [] ≡ frames) → IfOk made_one (λ clock. IsNone (shortage clock frames)) → IfOk made_one (IsClockOf chain frames)
unfolding made_counts
made_clock chain frames levels (Err e) same own made_is sound top enough = tt
made_clock chain frames levels (Ok clock) same own made_is sound top enough = record {
  levels = own ∙ same;
  counts_are = fun_ext (λ path. fun_ext (λ trib. fun_ext (λ n. ap (λ (frames : List (List ℕ)). slice_index (slice_index_or frames n []) trib) (made_is path ∙ ap (λ levels. made levels Mixed frames path) same))));
  sound = subst (λ levels. All (IsRowOf levels) clock.rows) same sound;
  top = top;
  enough = enough;
}
