-- What comes into a store while its node's line grows.
use Rattle.std.proofs.Common.{◌≡◌, ℕ, zero, suc, ◌+◌, ◌-◌, ◌*◌, ◌/◌, ◌%◌, ◌<◌, ◌≤◌, ◌==◌, cond, List, length, Some, IsSome, inl, inr, refl, sym, ap, ◌∙◌, subst, arith}
use Rattle.std.proofs.lemmas.Bool.{cases_lt}
use Rattle.std.proofs.lemmas.Nat.{div-add-mod', mod_below, le-div}
use Rattle.std.proofs.Math.Dec.{eqb-suc-zero}
use Rattle.std.proofs.Math.Nat.{div-mul-le_self, mul-le-mul_right}
use Rattle.pdh_shape.specs.declared.place.Level.{Level}
use Rattle.pdh_line.specs.Progress.{came_by, begun_by, by_stores}
use Rattle.pdh_line.specs.Progress.Stores.{Elastic, Locked}
use Rattle.pdh_line.proofs.SendingLaws.{arrived-suc, arrived-grows}
use Rattle.pdh_levels.specs.Levels.{IsElastic, level_at, stores_at, len_at}
use Rattle.pdh_levels.proofs.LevelLaws.{has_stores, stores_count, len_is}
use Rattle.pdh_rows.specs.declared.table.Table.{Table}
use Rattle.pdh_rows.specs.Rows.{node_frames, node_frame_count, node_counts}
use Rattle.pdh_rows.specs.Stored.{rows_of}
use Rattle.pdh_clock.specs.declared.tree.Tree.{Tree}
use Rattle.pdh_clock.specs.Begun.{taken}
use Rattle.pdh_clock.specs.Contents.{Contents, frames_of, counts, frame_count}
use Rattle.pdh_clock.specs.Stored.{IsTree, rows_in}
use Rattle.pdh_clock.proofs.Begins.{begun_by-le, part_small}
use Rattle.pdh_clock.proofs.Served.{frames_few, same_counts}

-- what came before a slot of a frame is no more than what came before a later one, in this frame or in a later one
came_by-within : (len : ℕ) (counts : ℕ → ℕ) (n m t u : ℕ) → 0 < len → n ≡ m → t ≤ u → came_by len counts n t ≤ came_by len counts m u
came_by-within len counts n m t u some same upto =
    let more : t * counts n ≤ u * counts n = mul-le-mul_right (counts n) upto in
    subst (λ k. came_by len counts n t ≤ came_by len counts k u) same
    (omega (arith, le-div (t * counts n / len) (u * counts n) len some (omega (arith, div-mul-le_self (t * counts n) len, more))))

came_by-later : (len : ℕ) (counts : ℕ → ℕ) (n m t u : ℕ) → t < len → n < m → came_by len counts n t ≤ came_by len counts m u
came_by-later len counts n m t u inside later =
    omega (arith, part_small t (counts n) len inside, arrived-suc counts n, arrived-grows counts (suc n) m (omega arith))

came_by-grows : (len : ℕ) (counts : ℕ → ℕ) (x y : ℕ) → 0 < len → x ≤ y → came_by len counts (x / len) (x % len) ≤ came_by len counts (y / len) (y % len)
came_by-grows len counts x y some h =
    let whole_x : x / len * len + x % len ≡ x = div-add-mod' x len in
    let whole_y : y / len * len + y % len ≡ y = div-add-mod' y len in
    let frames : x / len ≤ y / len = le-div (x / len) y len some (omega arith) in
    elim (cases_lt (x / len) (y / len)) [
      | inl later ↦ came_by-later len counts (x / len) (y / len) (x % len) (y % len) (mod_below x len some) later
      | inr not_later ↦
          let same : x / len ≡ y / len = omega arith in
          let product : x / len * len ≡ y / len * len = ap (λ n. n * len) same in
          came_by-within len counts (x / len) (y / len) (x % len) (y % len) some same (omega arith)
    ]

-- how many bits have come into the store: none before the line's first bit
abbrev pub come : ℕ → (ℕ → ℕ) → ℕ → ℕ
come len counts x = cond (x == 0) 0 (came_by len counts (x / len) (x % len))

come-some : (len : ℕ) (counts : ℕ → ℕ) (x : ℕ) → come len counts (suc x) ≡ came_by len counts (suc x / len) (suc x % len)
come-some len counts x = ap (λ b. cond b 0 (came_by len counts (suc x / len) (suc x % len))) (eqb-suc-zero x)

-- a longer line has taken no fewer bits
pub come-grows : (len : ℕ) (counts : ℕ → ℕ) (x y : ℕ) → 0 < len → x ≤ y → come len counts x ≤ come len counts y
come-grows len counts zero y some h = omega arith
come-grows len counts (suc x) zero some h = absurd (omega arith)
come-grows len counts (suc x) (suc y) some h = omega (arith, come-some len counts x, come-some len counts y, came_by-grows len counts (suc x) (suc y) some h)

-- ---- the store of a tributary of a node

taken_come : (level : Level) (trib : ℕ) (counts : ℕ → ℕ) (x : ℕ) → IsElastic level → taken level trib counts x ≡ come level.len counts x
taken_come level trib counts x elastic =
    ap (λ b. by_stores (cond b (Locked (λ j t. 0)) Elastic) (come level.len counts x) (λ (reads : ℕ → ℕ → ℕ). x / level.len * level.low + reads trib (x % level.len))) elastic

-- bits of the frames that the node has
pub bits_scheduled : (s t : Contents) (path : List ℕ) (level : Level) (bits : ℕ) → t ≡ s → level_at t.levels path ≡ Some level
    → bits ≤ frame_count s.rows path * len_at s.levels path → bits ≤ frame_count t.rows path * level.len
bits_scheduled s t path level bits same at h =
    subst (λ len. bits ≤ frame_count t.rows path * len) (len_is t.levels path level at)
    (subst (λ (v : Contents). bits ≤ frame_count v.rows path * len_at v.levels path) (sym same) h)

-- the table has their frames, and they are few
pub record AreScheduled (table : Table) (len bits : ℕ) : Type 0 where
  pub enough : begun_by len bits ≤ node_frame_count (rows_of table)
  pub few : bits ≤ 18446744073709551615 * len

pub are_scheduled : (tree : Tree) (path : List ℕ) (table : Table) (len bits : ℕ) → IsTree tree → IsSome (level_at tree.levels.items path) → 0 < len
    → node_frames (rows_of table) ≡ frames_of (rows_in tree) path → bits ≤ frame_count (rows_in tree) path * len → AreScheduled table len bits
are_scheduled tree path table len bits h known some same all =
    let few : frame_count (rows_in tree) path ≤ 18446744073709551615 = omega (arith, frames_few tree path h known) in
    record {
      enough = subst (λ n. begun_by len bits ≤ n) (sym (ap length same)) (begun_by-le len bits (frame_count (rows_in tree) path) some all);
      few = omega (arith, all, mul-le-mul_right len few);
    }

-- what came in up to one bit is among what came in up to a later one
pub came_before : (len : ℕ) (counts : ℕ → ℕ) (from to before behind : ℕ) → 0 < len → from ≤ to → before ≡ come len counts from → behind ≡ come len counts to → before ≤ behind
came_before len counts from to before behind some upto was is = omega (arith, was, is, come-grows len counts from to some upto)

-- so they differ by what arrives between
pub arriving_is : (tree : Tree) (path : List ℕ) (table : Table) (trib from to before behind : ℕ) (level read : Level)
    → level_at tree.levels.items path ≡ Some level → level_at tree.levels.items path ≡ Some read → 0 < read.len → trib < stores_at tree.levels.items path
    → node_frames (rows_of table) ≡ frames_of (rows_in tree) path → from ≤ to
    → before ≡ come read.len (node_counts (rows_of table) trib) from → behind ≡ come read.len (node_counts (rows_of table) trib) to
    → behind - before + taken level trib (counts (rows_in tree) path trib) from ≡ taken level trib (counts (rows_in tree) path trib) to
arriving_is tree path table trib from to before behind level read at is some known frames upto was will =
    let same : read ≡ level = cc in
    let elastic : IsElastic level = has_stores level trib (omega (arith, known, stores_count tree.levels.items path level at)) in
    let took : (x n : ℕ) → n ≡ come read.len (node_counts (rows_of table) trib) x → n ≡ taken level trib (counts (rows_in tree) path trib) x =
    λ x n came. came ∙ ap (λ (l : Level). come l.len (node_counts (rows_of table) trib) x) same
    ∙ ap (λ f. come level.len f x) (same_counts tree path table trib trib frames refl) ∙ sym (taken_come level trib (counts (rows_in tree) path trib) x elastic) in
    omega (arith, took from before was, took to behind will, came_before read.len (node_counts (rows_of table) trib) from to before behind some upto was will)
