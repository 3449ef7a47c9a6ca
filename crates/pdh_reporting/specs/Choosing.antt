-- What a recording is read as.
use Rattle.std.specs.Prelude.{◌≡◌, ℕ, Bool, true, false, not, ◌&&◌, ◌||◌, List, filter, find, Option, Some, None, IsSomeAnd}
use Rattle.pdh_readings.specs.declared.bit_order.BitOrder.{BitOrder}
use Rattle.pdh_readings.specs.Orders.{order_of, orders}
use Rattle.pdh_candidates.specs.declared.candidate.Candidate.{Candidate}
use Rattle.pdh_candidates.specs.declared.word.Word.{Word}
use Rattle.pdh_candidates.specs.Words.{candidates, candidate_of}
use Rattle.pdh_looking.specs.declared.answer.Looked.TheVariants as of_looked
use Rattle.pdh_looking.specs.Answers.{IsAnswer}
use Rattle.pdh_looking.specs.Judging.{line_of}
use Rattle.pdh_looking.specs.Levels.{its_top_stands}
use Rattle.pdh_looking.specs.Looking.{meets}
use Rattle.pdh_recording.specs.declared.part.Part.{Part}
use Rattle.pdh_report_words.specs.declared.request.Request.{Request}
use Rattle.pdh_reporting.specs.declared.chosen.Beside.{Beside}
use Rattle.pdh_reporting.specs.declared.chosen.Beside.TheVariants as of_beside
use Rattle.pdh_reporting.specs.declared.chosen.Choice.{Choice}
use Rattle.pdh_reporting.specs.declared.chosen.Choice.TheVariants as of_choice

-- the words leave an order: any, but where they tell that bits are inverted or begin at the least significant one
abbrev pub is_left : Bool → Bool → BitOrder → Bool
is_left lsb_first inverted order = (order.lsb_first || not lsb_first) && (order.inverted || not inverted)

abbrev pub orders_left : Request → List BitOrder
orders_left request = filter (is_left request.lsb_first request.inverted) orders

-- ---- a chain that was given

-- the first candidate that meets the test in a part, in any order of bits
abbrev pub first_found : Part → Option Candidate
first_found part = find (meets part.bytes.now part.first part.bits) (candidates orders)

abbrev pub IsSearched : Part → Beside → Type 0
IsSearched part of_beside.Unasked = ⊥
IsSearched part of_beside.Nothing = first_found part ≡ None
IsSearched part (of_beside.Chain word order) = first_found part ≡ Some (candidate_of word order)

-- a search is made beside it where its top doesn't stand
abbrev pub IsBesideBy : Bool → Part → Beside → Type 0
IsBesideBy true part beside = beside ≡ of_beside.Unasked
IsBesideBy false part beside = IsSearched part beside

abbrev pub IsBeside : Part → Word → BitOrder → Beside → Type 0
IsBeside part word order beside = IsBesideBy (its_top_stands word (line_of part.bytes.now part.first part.bits order)) part beside

-- it is read as that, in the order that the words tell
abbrev pub IsGiven : Request → Part → Word → Choice → Type 0
IsGiven request part word (of_choice.Read chosen) =
    (chosen.word ≡ word) × (chosen.order ≡ order_of request.lsb_first request.inverted) × (chosen.found ≡ None) × IsBeside part word chosen.order chosen.beside
IsGiven request part word (of_choice.Nothing bits nearest) = ⊥
IsGiven request part word (of_choice.Constant byte) = ⊥

-- ---- a chain that is looked for

-- it is read as the first candidate that meets the test in the part, or not at all
abbrev pub IsLookedFor : Part → List BitOrder → Choice → Type 0
IsLookedFor part left (of_choice.Read chosen) =
    IsSomeAnd chosen.found (λ found. (candidate_of chosen.word chosen.order ≡ found.candidate) × IsAnswer part.bytes.now part.first part.bits left (of_looked.Found found))
IsLookedFor part left (of_choice.Nothing bits nearest) = (bits ≡ part.bits) × IsAnswer part.bytes.now part.first part.bits left (of_looked.Nothing nearest)
IsLookedFor part left (of_choice.Constant byte) = ⊥

-- a recording that consists of one byte is nothing
abbrev pub IsFoundOut : Option ℕ → Part → List BitOrder → Choice → Type 0
IsFoundOut (Some byte) part left choice = choice ≡ of_choice.Constant byte
IsFoundOut None part left choice = IsLookedFor part left choice

abbrev pub IsChoiceBy : Option Word → Request → Part → Choice → Type 0
IsChoiceBy (Some word) request part choice = IsGiven request part word choice
IsChoiceBy None request part choice = IsFoundOut part.constant part (orders_left request) choice

-- what a recording with this part is read as, by the words
abbrev pub IsChoice : Request → Part → Choice → Type 0
IsChoice request part choice = IsChoiceBy request.chain request part choice
