use Rattle.std.proofs.Common.{◌≡◌, true, ℕ, ◌-◌, List, ◌++◌, length, take, sym, ◌∙◌, rules}
use Rattle.std.proofs.lemmas.List.{append_cancel_right}
use Rattle.std.specs.Bool.{Decides}
use Rattle.pdh_report_words.proofs.names.is_part_of.Goals as goal

-- what is left without the ending is what the ending stands behind
front_is : (part front output ending : List ℕ) (n : ℕ) → front ≡ take (length part - n) part → part ≡ take (length part - n) part ++ ending → part ≡ output ++ ending → front ≡ output
front_is part front output ending n cut whole is = cut ∙ append_cancel_right (take (length part - n) part) output ending (sym whole ∙ is)

pub returns-in-Some-clause-no : goal.returns-in-Some-clause-no
returns-in-Some-clause-no c = λ different is.
    let strips = c.in-Some.ensures.cases in
    let decides : Decides c.eq.result (c.in-Some.front.now ≡ c.args.output.now) = search rules in
    let same : c.eq.result ≡ true = decides.1 (front_is _ _ _ _ _ strips.2 strips.1.1 is) in
    cc
