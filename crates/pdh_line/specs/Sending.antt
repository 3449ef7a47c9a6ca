-- What a multiplexer with elastic stores sends: arrivals, positive justification, and every bit of its line.
-- Positive justification is that of ITU-T G.742, 5; the lead, the size of a store and the even spread of a frame's
-- arrivals are this project's own.
use Rattle.std.specs.Prelude.{◌≡◌, ℕ, zero, suc, ◌+◌, ◌-◌, ◌*◌, ◌/◌, ◌%◌, Bool, true, false, not, nat_lt, nat_le, ◌==◌, ◌&&◌, ◌||◌, if◌then◌else◌, List, [], ◌∷◌, ◌++◌, map, count_by}
use Rattle.std.specs.List.{range_with_len, flat_map}
use Rattle.pdh_shape.specs.declared.role.Role.{Role}
use Rattle.pdh_shape.specs.declared.role.Role.TheVariants.{Align, Service, Control, Just, Info}
use Rattle.pdh_shape.specs.declared.role.Service.{Service as Say}
use Rattle.pdh_shape.specs.Frame.{FrameShape, slots}
use Rattle.pdh_shape.specs.Tributary.{reads_from, reads_below, turned}
use Rattle.pdh_shape.specs.OwnNumbers.{lead, threshold, store_size}
use Rattle.pdh_line.specs.Edits.{half_store, Edit, edited}
use Rattle.pdh_line.specs.Progress.{FrameNumbers, arrived, arrived_by, came_by, begun_by, taken_by}
use Rattle.pdh_line.specs.Progress.Stores.{Elastic, Locked}

-- the nodes of a shape have stores, except where it has no control bits
abbrev pub HasStores : FrameShape → Type 0
HasStores s = (s.copies == 0) ≡ false

-- the numbers of a shape's frame; without stores a tributary is taken as its slots read it, in frames that carry no
-- additional bit
abbrev pub shape_numbers : FrameShape → FrameNumbers
shape_numbers s = record {
  len = s.len;
  tribs = s.tribs;
  low = s.low;
  stores = (if s.copies == 0 then Locked (λ j t. reads_below s j false t) else Elastic);
}

-- ---- one tributary, by how many of its bits arrive in each frame

-- how many of a frame's bits have arrived before slot t: they are spread evenly over the frame
abbrev pub arrived_in : FrameShape → ℕ → ℕ → ℕ
arrived_in s count t = arrived_by s.len count t

-- a bit arrives in slot t of a frame with this count
abbrev pub arrives_at : FrameShape → ℕ → ℕ → Bool
arrives_at s count t = nat_lt (arrived_in s count t) (arrived_in s count (suc t))

-- A frame is justified, so that its justifiable slot carries no bit, where at its start the store holds less than the
-- threshold, by what came into it and what was read from it. In a shape without control bits each frame is justified.
abbrev pub justifies : FrameShape → ℕ → ℕ → Bool
justifies s came read = (s.copies == 0) || nat_lt came (read + threshold)

-- how many bits a frame carries that carries an additional bit or doesn't
abbrev pub carried : FrameShape → Bool → ℕ
carried s more = (if more then suc s.low else s.low)

-- how many bits the first n frames carry
unfoldable pub sent : FrameShape → (ℕ → ℕ) → ℕ → ℕ
sent s counts zero = 0
sent s counts (suc n) = let before = sent s counts n in before + carried s (not (justifies s (lead + arrived counts n) before))

-- frame n carries an additional bit
abbrev pub sends_more : FrameShape → (ℕ → ℕ) → ℕ → Bool
sends_more s counts n = not (justifies s (lead + arrived counts n) (sent s counts n))

-- how many bits came into the store before slot t of frame n, the lead among them
abbrev pub came_before : FrameShape → (ℕ → ℕ) → ℕ → ℕ → ℕ
came_before s counts n t = came_by s.len counts n t

-- how many bits of tributary j were read from its store before slot t of frame n
abbrev pub read_before : FrameShape → ℕ → (ℕ → ℕ) → ℕ → ℕ → ℕ
read_before s j counts n t = sent s counts n + reads_below s j (sends_more s counts n) t

-- the fill of tributary j's store before slot t of frame n: what came and wasn't read
abbrev pub fill_before : FrameShape → ℕ → (ℕ → ℕ) → ℕ → ℕ → ℕ
fill_before s j counts n t = came_before s counts n t - read_before s j counts n t

-- its fill in that slot, after the slot's arrivals and before the slot is read
abbrev pub fill_arrived : FrameShape → ℕ → (ℕ → ℕ) → ℕ → ℕ → ℕ
fill_arrived s j counts n t = came_before s counts n (suc t) - read_before s j counts n t

-- ---- modes

-- in which way a line is made: an event of a store ends it, or the store slips and goes on
pub data Mode : Type 0 where
  Plain Slipping : Mode

-- ---- the slips of one frame of a tributary

-- a slip in a slot, behind so many reads of the tributary in its frame
pub record Slip : Type 0 where
  pub over : Bool
  pub slot : ℕ
  pub reads : ℕ

-- The slips in so many slots from slot t on, of a frame with this count that carries an additional bit or doesn't. `put` is how
-- many bits were put into the store before the frame's arrivals, `gone` how many are gone from it, and `reads` how many of them
-- were read in the frame. In a slot the arriving bit comes first; a slot that overflows doesn't underflow.
abbrev pub slips_from : FrameShape → ℕ → ℕ → Bool → ℕ → ℕ → ℕ → ℕ → ℕ → List Slip
slips_from s j count more zero t put gone reads = []
slips_from s j count more (suc left) t put gone reads =
    let read = reads_from j more (s.role t) in
    let over = arrives_at s count t && nat_le (gone + store_size) (put + arrived_in s count t) in
    let under = not over && (read && nat_le (put + arrived_in s count (suc t)) gone) in
    let one = (if read then 1 else 0) in
    let rest = slips_from s j count more left (suc t) (put + (if under then half_store else 0)) (gone + (if over then half_store else 0) + one) (reads + one) in
    if over || under then record { over = over; slot = t; reads = reads } ∷ rest else rest

-- ---- a tributary, frame by frame

-- with what a frame begins: how many bits of the tributary earlier frames carry, how many ones underflows put in and how many
-- bits overflows took out
pub record Start : Type 0 where
  pub sent : ℕ
  pub added : ℕ
  pub dropped : ℕ

-- frame n carries an additional bit, if it begins with this
abbrev pub carries_at : FrameShape → (ℕ → ℕ) → ℕ → Start → Bool
carries_at s counts n at = not (justifies s (lead + arrived counts n + at.added) (at.sent + at.dropped))

-- the slips in its first slots, so many; nodes without stores have none
abbrev pub slips_at : FrameShape → ℕ → (ℕ → ℕ) → ℕ → Start → ℕ → List Slip
slips_at s j counts n at slots =
    (if s.copies == 0 then []
    else slips_from s j (counts n) (carries_at s counts n at) slots 0 (lead + arrived counts n + at.added) (at.sent + at.dropped) 0)

-- how many bits these slips put in, or take out
abbrev pub shifted : Bool → List Slip → ℕ
shifted over slips = half_store * count_by (λ slip. (if over then slip.over else not slip.over)) slips

-- with what frame n begins
unfoldable pub start_of : FrameShape → ℕ → (ℕ → ℕ) → ℕ → Start
start_of s j counts zero = record { sent = 0; added = 0; dropped = 0 }
start_of s j counts (suc n) =
    let at = start_of s j counts n in
    let slips = slips_at s j counts n at s.len in
    record {
      sent = at.sent + carried s (carries_at s counts n at);
      added = at.added + shifted false slips;
      dropped = at.dropped + shifted true slips;
    }

-- the slips of tributary j in the first slots of frame n, so many
abbrev pub slips_in : FrameShape → ℕ → (ℕ → ℕ) → ℕ → ℕ → List Slip
slips_in s j counts n slots = slips_at s j counts n (start_of s j counts n) slots

-- the fill of its store before slot t of frame n
abbrev pub slip_fill : FrameShape → ℕ → (ℕ → ℕ) → ℕ → ℕ → ℕ
slip_fill s j counts n t =
    let at = start_of s j counts n in
    let slips = slips_in s j counts n t in
    lead + arrived counts n + arrived_in s (counts n) t + at.added + shifted false slips
    - (at.sent + reads_below s j (carries_at s counts n at) t + at.dropped + shifted true slips)

-- ---- what slips do to a tributary's bits

-- the edits of tributary j in the first slots of frame n, so many
abbrev pub edits_in : FrameShape → ℕ → (ℕ → ℕ) → ℕ → ℕ → List Edit
edits_in s j counts n slots =
    map (λ slip. record { over = slip.over; place = (start_of s j counts n).sent + slip.reads }) (slips_in s j counts n slots)

-- those of all frames before frame n, and of that many slots of it
abbrev pub edits_to : FrameShape → ℕ → (ℕ → ℕ) → ℕ → ℕ → List Edit
edits_to s j counts n slots = flat_map (λ m. edits_in s j counts m s.len) (range_with_len 0 n) ++ edits_in s j counts n slots

-- ---- both modes

-- how a tributary is carried: how many of its bits the first n frames carry, whether frame n carries an additional bit, and the
-- edits of its bits before slot t of frame n
pub record Carriage : Type 0 where
  pub sent : ℕ → ℕ
  pub more : ℕ → Bool
  pub edits : ℕ → ℕ → List Edit

abbrev pub carriage : Mode → FrameShape → ℕ → (ℕ → ℕ) → Carriage
carriage Plain s j counts = record { sent = sent s counts; more = sends_more s counts; edits = λ n t. [] }
carriage Slipping s j counts = record {
  sent = λ n. (start_of s j counts n).sent;
  more = λ n. carries_at s counts n (start_of s j counts n);
  edits = edits_to s j counts;
}

-- ---- the line

-- what decides a node's line
pub record Source : Type 0 where
  -- what an event of a store does
  pub mode : Mode
  -- how many bits of a tributary arrive in a frame
  pub counts : ℕ → ℕ → ℕ
  -- the bits of a tributary
  pub inputs : ℕ → ℕ → Bool
  -- what the service bits of a frame say
  pub says : ℕ → Say

-- how tributary j is carried
abbrev pub carriage_of : FrameShape → Source → ℕ → Carriage
carriage_of s source j = carriage source.mode s j (source.counts j)

-- frame n carries an additional bit of it
abbrev pub more_in : FrameShape → Source → ℕ → ℕ → Bool
more_in s source j n = (carriage_of s source j).more n

-- its next bit in slot t of frame n, as the line has it
abbrev pub input_bit : FrameShape → Source → ℕ → ℕ → ℕ → Bool
input_bit s source n t j =
    let c = carriage_of s source j in
    turned (s.inverted j) (edited (c.edits n (suc t)) (source.inputs j) (c.sent n + reads_below s j (c.more n) t))

-- the bit of an information or justifiable slot; a justifiable slot that carries nothing is 1, which is this project's
-- own choice, and no other slot counts here
abbrev pub payload_bit : FrameShape → Source → ℕ → ℕ → Role → Bool
payload_bit s source n t (Info j) = input_bit s source n t j
payload_bit s source n t (Just j) = (if more_in s source j n then input_bit s source n t j else true)
payload_bit s source n t _ = false

-- the information and justifiable slots of the frame before frame n hold an odd number of ones; no frame stands before
-- frame 0, which counts as an even number
unfoldable pub odd_before : FrameShape → Source → ℕ → Bool
odd_before s source zero = false
odd_before s source (suc n) = count_by (λ t. payload_bit s source n t (s.role t)) (slots s) % 2 == 1

-- the bit of slot t of frame n, by the slot's role; each control bit is 1 where the frame is justified
abbrev pub slot_bit : FrameShape → Source → ℕ → ℕ → Role → Bool
slot_bit s source n t (Align signal) = signal
slot_bit s source n t (Service number) = s.service number (source.says n) (odd_before s source n)
slot_bit s source n t (Control j copy) = not (more_in s source j n)
slot_bit s source n t (Just j) = payload_bit s source n t (Just j)
slot_bit s source n t (Info j) = payload_bit s source n t (Info j)

-- bit x of a node's line
unfoldable pub line_bit : FrameShape → Source → ℕ → Bool
line_bit s source x = slot_bit s source (x / s.len) (x % s.len) (s.role (x % s.len))

-- the first so many bits of a line
abbrev pub front : (ℕ → Bool) → ℕ → List Bool
front line n = map line (range_with_len 0 n)

-- ---- how far a node has come that made x bits of its line

-- how many frames it has begun
abbrev pub begun : FrameShape → ℕ → ℕ
begun s x = begun_by s.len x

-- how many bits of a tributary have come into its store: none before the node's first bit
abbrev pub taken : FrameShape → (ℕ → ℕ) → ℕ → ℕ
taken s counts x = (if x == 0 then 0 else came_before s counts (x / s.len) (x % s.len))

-- how many bits of tributary j a node has taken, with stores or without
abbrev pub given : FrameShape → ℕ → (ℕ → ℕ) → ℕ → ℕ
given s j counts x = taken_by (shape_numbers s) j counts x

-- how many bits of a tributary the begun frames take by their ends: none where no frame is begun
abbrev pub entered : (ℕ → ℕ) → ℕ → ℕ
entered counts frames = (if frames == 0 then 0 else lead + arrived counts frames)

-- ---- what comes back of a line

-- of so many whole frames of a sent line a receiver delivers all, or none where there are fewer than the three that it
-- needs to find the alignment
abbrev pub frames_found : ℕ → ℕ
frames_found frames = (if nat_lt frames 3 then 0 else frames)

-- how many bits of a tributary a receiver gets from the first so many frames of its node's line
abbrev pub given_back : FrameShape → (ℕ → ℕ) → ℕ → ℕ
given_back s counts frames = sent s counts (frames_found frames)
