use Rattle.std.proofs.Common.{◌≡◌, ◌∙◌, ℕ, Bool, true, not, ap, refl}
use Rattle.std.specs.Prelude.{count_by}
use Rattle.std.specs.List.{range_with_len}
use Rattle.pdh_line.specs.Sending.{frames_found}
use Rattle.pdh_claims_of_events.proofs.telling.block_errors_where_none_are_said.Goals as goal

none_of_three : (febe : ℕ → Bool) → ((n : ℕ) → febe n ≡ true) → count_by (λ n. not (febe n)) (range_with_len 0 3) ≡ 0
none_of_three febe all = rw (all 0) (rw (all 1) (rw (all 2) refl))

pub returns : goal.returns
returns c s below source bits frame says three all =
    c.a_sent_line_tells_its_block_errors.ensures.said s below source bits frame says
    ∙ ap (λ frames. count_by (λ n. not (source.says n).febe) (range_with_len 0 (frames_found frames))) three ∙ none_of_three (λ n. (source.says n).febe) all
