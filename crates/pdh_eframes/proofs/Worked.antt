-- Worked examples, computed by the checker.
use Rattle.std.specs.Prelude.{◌≡◌, ℕ, zero, suc, ◌-◌, ◌/◌, Bool, true, false, nat_lt, nat_le, ◌==◌, ◌&&◌, if◌then◌else◌, List, [], ◌∷◌, ◌++◌, map, replicate, refl}
use Rattle.pdh_shape.specs.declared.role.Role.{Role}
use Rattle.pdh_shape.specs.declared.role.Role.TheVariants.{Align, Service, Control, Just, Info}
use Rattle.pdh_shape.specs.Frame.{slots, is_right, wrong, clean}
use Rattle.pdh_shape.specs.Tributary.{stripped}
use Rattle.pdh_eframes.specs.Sets.{set_role, set_mark, four_wrong}
use Rattle.pdh_eframes.specs.Plans.{e2, e2_signal}
use Rattle.pdh_shape.specs.Walk.{walk}
use Rattle.pdh_shape.specs.KeptLaws.{keeps_laws, keeps_laws_by}

-- the four tributaries in turn, so many times
abbrev pub turns : ℕ → List Role
turns zero = []
turns (suc n) = Info 0 ∷ Info 1 ∷ Info 2 ∷ Info 3 ∷ turns n

abbrev pub controls_of : ℕ → List Role
controls_of copy = Control 0 copy ∷ Control 1 copy ∷ Control 2 copy ∷ Control 3 copy ∷ []

-- A frame of three control bits for each tributary, set by set: the signal, the alarm, the national bit and tributary bits; a
-- control bit of each tributary and tributary bits, twice; the control bits, the justifiable bits and tributary bits. The
-- numbers say how often the tributaries take their turns in the first set, in those between and in the last.
abbrev pub table_of : ℕ → ℕ → ℕ → List Role
table_of first between last =
    (map Align e2_signal ++ Service 0 ∷ Service 1 ∷ turns first)
    ++ (controls_of 0 ++ turns between)
    ++ (controls_of 1 ++ turns between)
    ++ (controls_of 2 ++ Just 0 ∷ Just 1 ∷ Just 2 ∷ Just 3 ∷ turns last)

-- G.742, Table 1: 200, 208, 208 and 204 tributary bits
pub e2_roles : map e2.role (slots e2) ≡ table_of 50 52 51
unfolding set_role
e2_roles = refl

-- a frame of zeros behind its signal, without alarm and with the national bit 1
unfoldable pub zeros_frame : List Bool
zeros_frame = e2_signal ++ false ∷ true ∷ replicate 836 false

-- it is right, and its control copies 000 say that it carries 206 bits of each tributary
pub zeros_right : is_right e2 zeros_frame ≡ true
unfolding zeros_frame is_right set_role
zeros_right = refl

pub zeros_stripped : map (λ j. stripped e2 j zeros_frame) (0 ∷ 1 ∷ 2 ∷ 3 ∷ []) ≡ replicate 4 (replicate 206 false)
unfolding zeros_frame stripped set_role
zeros_stripped = refl

pub zeros_clean : wrong e2 zeros_frame ≡ clean
unfolding zeros_frame wrong set_role set_mark
zeros_clean = refl

-- the same with byte 0 as 04 in place of F4: the first four framing slots are wrong
unfoldable pub bad_frame : List Bool
bad_frame = replicate 5 false ++ true ∷ replicate 4 false ++ false ∷ true ∷ replicate 836 false

pub bad_wrong : wrong e2 bad_frame ≡ record { framing = 15; multi = false }
unfolding bad_frame wrong set_role set_mark
bad_wrong = refl

-- twelve frames, of which four that follow each other have bad signals
unfoldable pub four_bad_signals : List Bool
four_bad_signals =
    zeros_frame ++ zeros_frame ++ zeros_frame ++ bad_frame ++ bad_frame ++ bad_frame ++ bad_frame
    ++ zeros_frame ++ zeros_frame ++ zeros_frame ++ zeros_frame ++ zeros_frame

-- ---- shapes that break a law

-- the slot that stands in slot t where two slots change places
abbrev pub swapped : ℕ → ℕ → ℕ → ℕ
swapped a b t = (if t == a then b else (if t == b then a else t))

-- a lower number than that of the information slots
pub low_refused : keeps_laws (record e2 { low = 204 }) ≡ false
unfolding keeps_laws_by walk set_role set_mark four_wrong
low_refused = refl

-- a tributary that only the slots name
pub tributary_refused : keeps_laws (record e2 { tribs = 3 }) ≡ false
unfolding keeps_laws_by walk set_role set_mark four_wrong
tributary_refused = refl

-- the framing slots in another order
pub marks_refused : keeps_laws (record e2 { mark = λ t. set_mark 10 (swapped 0 1 t) }) ≡ false
unfolding keeps_laws_by walk set_role set_mark four_wrong
marks_refused = refl

-- a signal of one slot fewer than the alignment slots
pub signal_refused : keeps_laws (record e2 { signal = 9 }) ≡ false
unfolding keeps_laws_by walk set_role set_mark four_wrong
signal_refused = refl

-- two information slots that change places
pub turn_refused : keeps_laws (record e2 { role = λ t. e2.role (swapped 12 13 t) }) ≡ false
unfolding keeps_laws_by walk set_role set_mark four_wrong
turn_refused = refl

-- the justifiable slot of tributary 0 in the first set, before its control slots
pub early_refused : keeps_laws (record e2 { role = λ t. e2.role (swapped 20 640 t) }) ≡ false
unfolding keeps_laws_by walk set_role set_mark four_wrong
early_refused = refl

-- the first set's bits one tributary after another
pub uneven_refused : keeps_laws (record e2 { role = λ t. (if nat_le 12 t && nat_lt t 212 then Info ((t - 12) / 50) else e2.role t) }) ≡ false
unfolding keeps_laws_by walk set_role set_mark four_wrong
uneven_refused = refl
