-- Worked schedules, computed by the checker.
use Rattle.std.proofs.Common.{◌≡◌, List, [], ◌∷◌, map, refl}
use Rattle.std.specs.Prelude.{replicate, codes}
use Rattle.std.specs.Fmt.{digits}
use Rattle.pdh_levels.proofs.Worked.{e2, e3, ds3_locked, ds2_locked}
use Rattle.pdh_clock.specs.declared.bias.Bias.TheVariants.{Nominal, Fast, Slow, Mixed}
use Rattle.pdh_clock.specs.declared.bias.Offset.TheVariants.{Exact, Ahead, Behind}
use Rattle.pdh_clock.specs.declared.bias.Bias.{Bias}
use Rattle.pdh_clock.specs.declared.bias.Offset.{Offset}
use Rattle.pdh_clock.specs.Making.{line_at}
use Rattle.pdh_line.specs.Progress.{arrived}
use Rattle.pdh_rows.specs.Flows.{each}
use Rattle.pdh_clock.specs.Row.{row_of}
use Rattle.pdh_clock.specs.Contents.{frames_of}
use Rattle.pdh_clock.specs.Made.{made, made_frames, offset_of, tributary_offset}
use Rattle.pdh_clock.specs.Written.{longest_rows, text_of, text_with}

-- four streams of 2048 kbit/s in one of 8448 kbit/s
pub nominal_frames : made (e2 ∷ []) Nominal 3 [] ≡ replicate 4 205 ∷ replicate 4 206 ∷ replicate 4 205 ∷ []
unfolding made made_frames
nominal_frames = refl

pub nominal_text : text_of (record { levels = e2 ∷ []; rows = map (row_of (each 0)) (longest_rows [] (replicate 4 205 ∷ replicate 4 206 ∷ replicate 4 206 ∷ [])) }) ≡ codes "/ 1 205 205 205 205\n/ 2 206 206 206 206\n"
unfolding text_with frames_of digits
nominal_text = refl

-- such a stream is the first of four in one of 34368 kbit/s: three frames of that bring 1132 bits, which with the lead of 48 begin two frames
pub frames_below : made (e3 ∷ e2 ∷ []) Nominal 3 (1 ∷ []) ≡ replicate 4 205 ∷ replicate 4 206 ∷ []
unfolding made made_frames arrived
frames_below = refl

pub no_node_below : made (e3 ∷ e2 ∷ []) Nominal 3 (5 ∷ []) ≡ []
unfolding made made_frames
no_node_below = refl

-- the leaves are fast, the nodes above them slow, and the top fast; or the top and each first, third.. tributary are fast
pub offsets : (offset_of Fast 0 2 ≡ Ahead) × (offset_of Fast 1 2 ≡ Behind) × (offset_of Fast 2 1 ≡ Ahead) × (offset_of Slow 0 2 ≡ Behind)
    × (offset_of Mixed 3 1 ≡ Ahead) × (offset_of Mixed 1 2 ≡ Behind) × (offset_of Mixed 0 3 ≡ Ahead)
offsets = (refl, refl, refl, refl, refl, refl, refl)

-- the top's frames have no counts; the node below makes 3 · 671 bits, which begin two frames
pub locked_frames : (made (ds3_locked ∷ ds2_locked ∷ []) Mixed 3 [] ≡ replicate 3 []) × (made (ds3_locked ∷ ds2_locked ∷ []) Mixed 3 (7 ∷ []) ≡ replicate 4 287 ∷ replicate 4 288 ∷ [])
unfolding made made_frames
locked_frames = (refl, refl)

-- the offsets of the top's line, of the lines of the second and third node below it, and of the second's second leaf and
-- the third's third
abbrev offsets_below : Bias → List Offset
offsets_below bias =
    line_at (ds3_locked ∷ ds2_locked ∷ []) bias [] ∷ line_at (ds3_locked ∷ ds2_locked ∷ []) bias (2 ∷ []) ∷ line_at (ds3_locked ∷ ds2_locked ∷ []) bias (3 ∷ [])
    ∷ tributary_offset ds2_locked bias 0 (line_at (ds3_locked ∷ ds2_locked ∷ []) bias (2 ∷ [])) 2 ∷ tributary_offset ds2_locked bias 0 (line_at (ds3_locked ∷ ds2_locked ∷ []) bias (3 ∷ [])) 3 ∷ []

pub locked_offsets : (offsets_below Nominal ≡ replicate 5 Exact) × (offsets_below Fast ≡ replicate 5 Ahead) × (offsets_below Slow ≡ replicate 5 Behind)
    × (offsets_below Mixed ≡ Ahead ∷ Ahead ∷ Ahead ∷ Behind ∷ Ahead ∷ [])
locked_offsets = (refl, refl, refl, refl)
