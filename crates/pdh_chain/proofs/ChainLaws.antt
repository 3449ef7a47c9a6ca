-- What holds of every chain, by the tests that its stages and its entry in the list have passed.
use Rattle.std.proofs.Common.{◌≡◌, ◌*◌, ◌==◌, cond, ◌/◌, ◌%◌, ◌<◌, ◌≤◌, leb-true, List, [], ◌∷◌, length, map, drop, All, refl, sym, ap, ◌∙◌, inl, inr, arith, true}
use Rattle.std.proofs.lemmas.Bool.{cases_Bool, and_parts, eqb-true, ltb-true, not-true}
use Rattle.std.proofs.lemmas.Nat.{div-add-mod'}
use Rattle.std.proofs.Math.Nat.{mul-le-mul}
use Rattle.std.proofs.lemmas.List.Elements.{All-nil, All-cons}
use Rattle.std.proofs.lemmas.List.{length-map}
use Rattle.pdh_shape.specs.declared.place.Level.{Level}
use Rattle.pdh_shape.specs.laws.LawsOfTest.{laws-is_frame, laws-has_tributaries, laws-reads_evenly}
use Rattle.pdh_line.specs.Sending.{HasStores, shape_numbers}
use Rattle.pdh_levels.specs.Levels.{IsLevel, IsElastic, AreLevels, level_numbers, numbers_of as numbers_in, shortest_frame}
use Rattle.pdh_clock.specs.Made.{IsRated}
use Rattle.pdh_nesting.specs.Chains.{numbers_of, width, top_len, AreFrames, ReadEvenly}
use Rattle.pdh_recovery.specs.Downwards.{KeepRight}
use Rattle.pdh_tx.specs.Meaning.{HasNumbers}
use Rattle.pdh_chain.specs.Stages.{Stage, level_of, frames_of, have_stores, carries_exactly, carries_between}
use Rattle.pdh_line.specs.Nodes.{width as width_of, top_len as top_len_of, delay_of as delay_by}
use Rattle.pdh_chain.specs.Chains.{listed, name_of, shapes_of, levels_of, leaves_of, frame_bytes_of, delay_of}
use Rattle.pdh_chain.specs.Trees.{AreLevelsOf}
use Rattle.pdh_chain.specs.declared.chain.Chain.{Chain}
use Rattle.pdh_chain.proofs.LevelNumbers.{same_width, same_len, same_delay}

-- ---- a stage

-- a frame carries fewer bits of a tributary than it has slots
abbrev pub IsLow : Level → Type 0
IsLow level = level.low < level.len

record StageNumbers (stage : Stage) : Type 0 where
  level : IsLevel (level_of stage)
  low : IsLow (level_of stage)

stage_numbers : (stage : Stage) → StageNumbers stage
stage_numbers stage =
    let a = and_parts _ _ stage.numbers in
    let b = and_parts _ _ a.1 in
    let c = and_parts _ _ b.1 in
    let d = and_parts _ _ c.1 in
    let low : IsLow (level_of stage) = ltb-true _ _ d.1 in
    record {
      level = record { shortest = leb-true _ _ a.0; longest = leb-true _ _ b.0; fewest = leb-true _ _ c.0; most = leb-true _ _ d.0; carried = λ locked. low };
      low = low;
    }

stage_rated : (stage : Stage) → IsRated (level_of stage)
stage_rated stage =
    let level : Level = level_of stage in
    let a = and_parts _ _ stage.rated in
    let b = and_parts _ _ a.1 in
    let c = and_parts _ _ b.1 in
    let d = and_parts _ _ c.1 in
    let e = and_parts _ _ d.1 in
    let carries : cond level.locked (carries_exactly level) (carries_between level) ≡ true = e.1 in
    let between : IsElastic level → carries_between level ≡ true = λ elastic. sym (ap (λ b. cond b (carries_exactly level) (carries_between level)) elastic) ∙ carries in
    let exactly : level.locked ≡ true → carries_exactly level ≡ true = λ locked. sym (ap (λ b. cond b (carries_exactly level) (carries_between level)) locked) ∙ carries in
    record {
      some_rate = ltb-true _ _ a.0;
      few = ltb-true _ _ b.0;
      half = leb-true _ _ c.0;
      offset = leb-true _ _ d.0;
      trib_offset = leb-true _ _ e.0;
      least = λ elastic. leb-true _ _ (and_parts _ _ (between elastic)).0;
      most = λ elastic. leb-true _ _ (and_parts _ _ (between elastic)).1;
      exact = λ locked. eqb-true _ _ (exactly locked);
    }

-- ---- the stages of a chain

frames_are : (stages : List Stage) → AreFrames (frames_of stages)
frames_are [] = tt
frames_are (stage ∷ below) = (laws-is_frame stage.frame stage.lawful, laws-has_tributaries stage.frame stage.lawful, frames_are below)

frames_even : (stages : List Stage) → ReadEvenly (frames_of stages)
frames_even [] = tt
frames_even (stage ∷ below) = (λ stores. laws-reads_evenly stage.frame stage.lawful, frames_even below)

frames_keep : (stages : List Stage) → KeepRight (frames_of stages)
frames_keep [] = tt
frames_keep (stage ∷ below) = (stage.keeps, frames_keep below)

stage_elastic : (stage : Stage) (below : List Stage) → have_stores (stage ∷ below) ≡ true → HasStores stage.frame
stage_elastic stage below stores = not-true _ (and_parts _ _ stores).0

all_elastic : (stages : List Stage) → have_stores stages ≡ true → All IsElastic (map level_of stages)
all_elastic [] stores = All-nil IsElastic
all_elastic (stage ∷ below) stores = All-cons IsElastic (level_of stage) (map level_of below) (stage_elastic stage below stores) (all_elastic below (and_parts _ _ stores).1)

elastic_below : (stages : List Stage) → have_stores (drop 1 stages) ≡ true → All IsElastic (drop 1 (map level_of stages))
elastic_below [] stores = All-nil IsElastic
elastic_below (stage ∷ below) stores = all_elastic below stores

all_levels : (P : Level → Type 0) → ((stage : Stage) → P (level_of stage)) → (stages : List Stage) → All P (map level_of stages)
all_levels P each [] = All-nil P
all_levels P each (stage ∷ below) = All-cons P (level_of stage) (map level_of below) (each stage) (all_levels P each below)

-- a level has the numbers of its frame,
level_has : (stage : Stage) → HasNumbers (level_of stage) (shape_numbers stage.frame)
level_has stage = record { len = refl; tribs = refl; low = refl; locked = elim (cases_Bool (stage.frame.copies == 0)) [ inl locked ↦ rw locked refl | inr stores ↦ rw stores refl ] }

-- and stands for the same numbers where its nodes have stores
same_below : (stages : List Stage) → have_stores stages ≡ true → numbers_of (frames_of stages) ≡ numbers_in (map level_of stages)
same_below [] stores = refl
same_below (stage ∷ below) stores =
    let own : shape_numbers stage.frame ≡ level_numbers (level_of stage) = rw (stage_elastic stage below stores) refl in
    ap (λ numbers. numbers ∷ numbers_of (frames_of below)) own ∙ ap (λ rest. level_numbers (level_of stage) ∷ rest) (same_below below (and_parts _ _ stores).1)

same_numbers : (stages : List Stage) → have_stores (drop 1 stages) ≡ true → AreLevelsOf (frames_of stages) (map level_of stages)
same_numbers [] stores = refl
same_numbers (stage ∷ below) stores = (level_has stage, same_below below stores)

-- ---- every chain

pub are_frames : (chain : Chain) → AreFrames (shapes_of chain)
are_frames chain = frames_are (listed chain).stages

pub read_evenly : (chain : Chain) → ReadEvenly (shapes_of chain)
read_evenly chain = frames_even (listed chain).stages

pub keep_right : (chain : Chain) → KeepRight (shapes_of chain)
keep_right chain = frames_keep (listed chain).stages

pub all_rated : (chain : Chain) → All IsRated (levels_of chain)
all_rated chain = all_levels IsRated stage_rated (listed chain).stages

pub all_low : (chain : Chain) → All IsLow (levels_of chain)
all_low chain = all_levels IsLow (λ stage. (stage_numbers stage).low) (listed chain).stages

-- the parts of the test of its entry
record Held (chain : Chain) : Type 0 where
  short : length (name_of chain) ≡ 3
  some : 1 ≤ length (listed chain).stages
  few : length (listed chain).stages ≤ 3
  stores : have_stores (drop 1 (listed chain).stages) ≡ true
  leaves : leaves_of chain ≤ 64
  whole : top_len (shapes_of chain) % 8 ≡ 0

held : (chain : Chain) → Held chain
held chain =
    let a = and_parts _ _ (listed chain).held in
    let b = and_parts _ _ a.1 in
    let c = and_parts _ _ b.1 in
    let d = and_parts _ _ c.1 in
    let e = and_parts _ _ d.1 in
    record { short = eqb-true _ _ a.0; some = leb-true _ _ b.0; few = leb-true _ _ c.0; stores = d.0; leaves = leb-true _ _ e.0; whole = eqb-true _ _ e.1 }

pub are_levels_of : (chain : Chain) → AreLevelsOf (shapes_of chain) (levels_of chain)
are_levels_of chain = same_numbers (listed chain).stages (held chain).stores

pub name_short : (chain : Chain) → length (name_of chain) ≡ 3
name_short chain = (held chain).short

pub few_leaves : (chain : Chain) → leaves_of chain ≤ 64
few_leaves chain = (held chain).leaves

pub are_levels : (chain : Chain) → AreLevels (levels_of chain)
are_levels chain =
    let count : length (levels_of chain) ≡ length (listed chain).stages = length-map (listed chain).stages level_of in
    record {
      some = omega (arith, count, (held chain).some);
      few = omega (arith, count, (held chain).few);
      each = all_levels IsLevel (λ stage. (stage_numbers stage).level) (listed chain).stages;
      stores_below = elastic_below (listed chain).stages (held chain).stores;
    }

pub few_shapes : (chain : Chain) → length (shapes_of chain) ≤ 3
few_shapes chain = omega (arith, length-map (listed chain).stages (λ (stage : Stage). stage.frame), (held chain).few)

-- there is a leaf
some_width : (stages : List Stage) → 0 < width (frames_of stages)
some_width [] = omega arith
some_width (stage ∷ below) =
    let each : 4 ≤ stage.frame.tribs = (stage_numbers stage).level.fewest in
    let rest : 1 ≤ width (frames_of below) = some_width below in
    let least : 4 * 1 ≤ stage.frame.tribs * width (frames_of below) = mul-le-mul each rest in
    omega arith

pub some_leaves : (chain : Chain) → 0 < leaves_of chain
some_leaves chain = some_width (listed chain).stages

-- the top has a frame, which is whole bytes
top_some : (stages : List Stage) → 1 ≤ length stages → shortest_frame ≤ top_len (frames_of stages)
top_some [] some = absurd (omega arith)
top_some (stage ∷ below) some = (stage_numbers stage).level.shortest

pub some_bits : (chain : Chain) → 0 < top_len (shapes_of chain)
some_bits chain = omega (arith, top_some (listed chain).stages (held chain).some)

pub whole_bytes : (chain : Chain) → top_len (shapes_of chain) ≡ 8 * frame_bytes_of chain
whole_bytes chain = omega (arith, div-add-mod' (top_len (shapes_of chain)) 8, (held chain).whole)

pub some_bytes : (chain : Chain) → 0 < frame_bytes_of chain
some_bytes chain = omega (arith, whole_bytes chain, some_bits chain)

-- ---- the same, by the numbers of its levels

pub leaves-by_levels : (chain : Chain) (levels : List Level) → levels ≡ levels_of chain → width_of (numbers_in levels) ≡ leaves_of chain
leaves-by_levels chain levels same = ap (λ ls. width_of (numbers_in ls)) same ∙ sym (same_width (shapes_of chain) (levels_of chain) (are_levels_of chain))

pub bytes-by_levels : (chain : Chain) (levels : List Level) → levels ≡ levels_of chain → top_len_of (numbers_in levels) / 8 ≡ frame_bytes_of chain
bytes-by_levels chain levels same = ap (λ ls. top_len_of (numbers_in ls) / 8) same ∙ sym (ap (λ len. len / 8) (same_len (shapes_of chain) (levels_of chain) (are_levels_of chain)))

pub delay-by_levels : (chain : Chain) (levels : List Level) → levels ≡ levels_of chain → delay_by (numbers_in levels) ≡ delay_of chain
delay-by_levels chain levels same = ap (λ ls. delay_by (numbers_in ls)) same ∙ sym (same_delay (shapes_of chain) (levels_of chain) (are_levels_of chain))
