-- More received bits only add to what the leaves of such a node have got.
use Rattle.std.proofs.Common.{◌≡◌, ℕ, ◌-◌, Bool, true, false, List, [], ◌++◌, refl, inl, inr}
use Rattle.std.specs.Prelude.{◌||◌}
use Rattle.std.proofs.lemmas.Bool.{cases_Bool}
use Rattle.pdh_shape.specs.declared.place.Path.{Path}
use Rattle.pdh_shape.specs.Frame.{FrameShape, IsFrame}
use Rattle.pdh_edge.specs.Ports.{IsPrefix}
use Rattle.pdh_rx.specs.Meaning.{IsSound}
use Rattle.pdh_desync.specs.Smooth.{is_from, mute_meaning, smooth_meaning}
use Rattle.pdh_desync.specs.laws.SmoothLaws.{smooth_grows, marks_grow}

or_none : (a b : Bool) → (a || b) ≡ false → (a ≡ false) × (b ≡ false)
or_none true b h = cc
or_none false b h = (refl, h)

pub smooth_sound : (s : FrameShape) (path : Path) (first marks_from : ℕ) → IsFrame s → IsSound (smooth_meaning s path first marks_from)
smooth_sound s path first marks_from laws = record { grows = grows; elsewhere = elsewhere }
  where
    grows : (line more : List Bool) (k : ℕ) → IsPrefix ((smooth_meaning s path first marks_from).got line k) ((smooth_meaning s path first marks_from).got (line ++ more) k)
    grows line more k =
        elim (cases_Bool (is_from first s.tribs k)) [
          | inl out ↦ rw out (smooth_grows s (k - first) line more laws)
          | inr other ↦
              rw other (
              elim (cases_Bool (is_from marks_from s.tribs k)) [
                | inl mark ↦ rw mark (marks_grow s (k - marks_from) line more laws)
                | inr neither ↦ rw neither ([], refl)
              ]
              )
        ]

    elsewhere : (line : List Bool) (k : ℕ) → (smooth_meaning s path first marks_from).leaves k ≡ false → (smooth_meaning s path first marks_from).got line k ≡ []
    elsewhere line k none =
        let parts = or_none (is_from first s.tribs k) (is_from marks_from s.tribs k) none in
        rw (parts.0, parts.1) refl

pub mute_sound : IsSound mute_meaning
mute_sound = record { grows = λ line more k. ([], refl); elsewhere = λ line k none. refl }
