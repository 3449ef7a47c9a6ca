use Rattle.std.proofs.Common.{rules, ◌≡◌, ◌≤◌, IfOk, string_bytes, ℕ, List, [], ◌∷◌, take, sym, subst, arith}
use Rattle.std.proofs.lemmas.List.{take_all}
use Rattle.pdh_line.specs.Paths.{path_text}
use Rattle.pdh_following.proofs.names.node_name.Goals as goal

pub returns-in-1 : goal.returns-in-1
returns-in-1 c =
    let P : List ℕ → Type 0 = λ steps. IfOk c.format-in-1.result (λ text. string_bytes text ≡ path_text steps) in
    let Q : ℕ → Type 0 = λ depth. P (take depth (c.args.path.first ∷ c.args.path.second ∷ [])) in
    let one : P (c.args.path.first ∷ []) = search rules in
    subst Q (sym c.in-1.is) one

pub returns-in_default : goal.returns-in_default
returns-in_default c =
    let P : List ℕ → Type 0 = λ steps. IfOk c.format-in_default.result (λ text. string_bytes text ≡ path_text steps) in
    let deep : 2 ≤ c.args.path.depth = omega arith in
    let two : P (c.args.path.first ∷ c.args.path.second ∷ []) = search rules in
    subst P (sym (take_all c.args.path.depth (c.args.path.first ∷ c.args.path.second ∷ []) deep)) two
