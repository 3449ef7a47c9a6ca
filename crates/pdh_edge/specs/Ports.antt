-- Lists of bits, one for each leaf, and what calls take of them and put to them.
use Rattle.std.specs.Prelude.{◌≡◌, ℕ, ◌+◌, Bool, true, ◌==◌, if◌then◌else◌, List, [], ◌∷◌, ◌++◌, length, Option, Some, None, Result, Ok, Err, ◌<◌, take}
use Rattle.pdh_edge.specs.declared.port.FeedStop.{FeedStop}
use Rattle.pdh_edge.specs.declared.port.FeedStop.TheVariants.{Failed, Ended}
use Rattle.std.specs.Option.{option_map}
use Rattle.pdh_edge.specs.Counts.{one_more}

-- the lists that give bits
pub record Inputs : Type 0 where
  -- the leaves that have a list
  pub holds : ℕ → Bool
  -- how many bits a leaf's list still has
  pub left : ℕ → ℕ
  -- these bits, where they are told
  pub told : ℕ → Option (List Bool)

-- the lists that take bits
pub record Outputs : Type 0 where
  -- the leaves that have a list
  pub holds : ℕ → Bool
  -- the bits of a leaf's list, where they are told
  pub told : ℕ → Option (List Bool)

-- each leaf has a list, of which no bits are told
abbrev pub all_lists : Outputs
all_lists = record { holds = λ k. true; told = λ k. None }

-- ---- bits for each leaf

-- one bit for one leaf, and none for the others
abbrev pub only : ℕ → Bool → ℕ → List Bool
only leaf bit k = (if k == leaf then bit ∷ [] else [])

-- these bits for one leaf, and none for the others
abbrev pub for_leaf : ℕ → List Bool → ℕ → List Bool
for_leaf leaf bits k = (if k == leaf then bits else [])

-- no bit for any leaf
abbrev pub nothing : ℕ → List Bool
nothing k = []

-- ---- what a call takes

-- what was told before a call that took these bits, by what is told after it
abbrev pub before : List Bool → Option (List Bool) → Option (List Bool)
before bits None = None
before bits (Some rest) = Some (bits ++ rest)

-- each leaf's list has given these bits, its first ones
pub record Takes (given : ℕ → List Bool) (old new : Inputs) : Type 0 where
  pub counts : (k : ℕ) → old.left k ≡ length (given k) + new.left k
  pub bits : (k : ℕ) → old.told k ≡ before (given k) (new.told k)

-- ---- what waits: the bits of each leaf's list that come before the first call that may fail

-- a call gave so many bits of this leaf's list: where any waited, they were of those; and of the other lists the same wait
pub record GivesWaiting (leaf count : ℕ) (old new : ℕ → ℕ) : Type 0 where
  pub fewer : 0 < old leaf → old leaf ≡ count + new leaf
  pub others : (k : ℕ) → (k ≡ leaf → ⊥) → new k ≡ old k

-- of these lists only what waits
abbrev pub only_waiting : Inputs → (ℕ → ℕ) → Inputs
only_waiting all waits = record { holds = all.holds; left = waits; told = λ k. option_map (take (waits k)) (all.told k) }

-- bits were taken of what waits, and of nothing else
pub record TakesWaiting (old new : Inputs) (waited waits : ℕ → ℕ) : Type 0 where
  pub given : ℕ → List Bool
  pub takes : Takes given old new
  pub fewer : (k : ℕ) → waited k ≡ length (given k) + waits k

-- ---- what a call puts

-- what is told after a call that appended these bits, by what was told before it
abbrev pub after : List Bool → Option (List Bool) → Option (List Bool)
after bits None = None
after bits (Some list) = Some (list ++ bits)

-- these bits were appended to each leaf's list
abbrev pub Puts : (ℕ → List Bool) → Outputs → Outputs → Type 0
Puts bits old new = (k : ℕ) → new.told k ≡ after (bits k) (old.told k)

-- a list is a prefix of another
abbrev pub IsPrefix : List Bool → List Bool → Type 0
IsPrefix xs ys = (rest : List Bool) × (ys ≡ xs ++ rest)

-- what is told now is a prefix of what was told and then these bits
abbrev pub PrefixOf : List Bool → Option (List Bool) → Option (List Bool) → Type 0
PrefixOf bits None None = Unit {0}
PrefixOf bits (Some old) (Some new) = IsPrefix new (old ++ bits)
PrefixOf bits None (Some new) = ⊥
PrefixOf bits (Some old) None = ⊥

-- each leaf's list is a prefix of what it was and then these bits
abbrev pub PutsPart : (ℕ → List Bool) → Outputs → Outputs → Type 0
PutsPart bits old new = (k : ℕ) → PrefixOf (bits k) (old.told k) (new.told k)

-- ---- faults

-- a count of faults after a call: one more where the call failed, and else as it was
abbrev pub faults_after : {T E : Type 0} → Result T E → ℕ → ℕ
faults_after (Ok x) faults = faults
faults_after (Err e) faults = one_more faults

-- the same after a call of a feed that ended so
abbrev pub faults_fed : FeedStop → ℕ → ℕ
faults_fed Failed faults = one_more faults
faults_fed Ended faults = faults

abbrev pub feed_faults_after : {T : Type 0} → Result T FeedStop → ℕ → ℕ
feed_faults_after (Ok x) faults = faults
feed_faults_after (Err why) faults = faults_fed why faults

-- a failed call was counted once, and nothing else was
abbrev pub HasCause : {T E : Type 0} → ℕ → ℕ → Result T E → Type 0
HasCause old new result = new ≡ faults_after result old

abbrev pub HasFeedCause : {T : Type 0} → ℕ → ℕ → Result T FeedStop → Type 0
HasFeedCause old new result = new ≡ feed_faults_after result old
