-- The chains of the known shapes keep what the laws ask of a chain.
use Rattle.std.proofs.Common.{◌≡◌, true, List, [], ◌∷◌}
use Rattle.pdh_shape.specs.Frame.{FrameShape}
use Rattle.pdh_shape.specs.KeptLaws.{keeps_laws}
use Rattle.pdh_shape.specs.laws.LawsOfTest.{laws-is_frame, laws-has_tributaries, laws-reads_evenly}
use Rattle.pdh_eframes.specs.Plans.{e2, e3, e4}
use Rattle.pdh_eframes.specs.laws.E2Laws.{e2_keeps_laws}
use Rattle.pdh_eframes.specs.laws.E3Laws.{e3_keeps_laws}
use Rattle.pdh_eframes.specs.laws.E4Laws.{e4_keeps_laws}
use Rattle.pdh_nesting.specs.Chains.{AreFrames, ReadEvenly}

-- the frames of a chain are frames, and are read evenly
abbrev pub AreKnown : List FrameShape → Type 0
AreKnown shapes = AreFrames shapes × ReadEvenly shapes

-- one that keeps the laws, above others
known_above : (s : FrameShape) (below : List FrameShape) → keeps_laws s ≡ true → AreKnown below → AreKnown (s ∷ below)
known_above s below kept rest = ((laws-is_frame s kept, laws-has_tributaries s kept, rest.0), (λ stores. laws-reads_evenly s kept, rest.1))

pub e2_known : AreKnown (e2 ∷ [])
e2_known = known_above e2 [] e2_keeps_laws (tt, tt)

pub e3_known : AreKnown (e3 ∷ [])
e3_known = known_above e3 [] e3_keeps_laws (tt, tt)

pub e3_e2_known : AreKnown (e3 ∷ e2 ∷ [])
e3_e2_known = known_above e3 (e2 ∷ []) e3_keeps_laws e2_known

pub e4_e3_known : AreKnown (e4 ∷ e3 ∷ [])
e4_e3_known = known_above e4 (e3 ∷ []) e4_keeps_laws e3_known

pub e4_e3_e2_known : AreKnown (e4 ∷ e3 ∷ e2 ∷ [])
e4_e3_e2_known = known_above e4 (e3 ∷ e2 ∷ []) e4_keeps_laws e3_e2_known

-- a shape with the slots of E2, and without stores
abbrev pub locked_e2 : FrameShape
locked_e2 = record e2 { copies = 0 }
