-- The calls of one kind: how many were made, and which of them are to fail.
use Rattle.std.specs.Prelude.{◌==◌, ℕ, List, [], ◌∷◌, ◌++◌, Bool}
use Rattle.std.specs.List.{list_any}
use Rattle.pdh_edge.specs.Counts.{one_more}

pub record PlanState : Type 0 where
  -- the numbers, from 0, of the calls that are to fail
  pub fails : List ℕ
  -- how many calls were made
  pub made : ℕ

-- no call was made, and none is to fail
abbrev pub no_plan : PlanState
no_plan = record { fails = []; made = 0 }

-- whether the next call is to fail
abbrev pub is_due : PlanState → Bool
is_due plan = list_any (λ number. number == plan.made) plan.fails

-- a plan after one more call
abbrev pub plan_after_call : PlanState → PlanState
plan_after_call plan = record plan { made = one_more plan.made }

-- a plan with one more call that is to fail
abbrev pub plan_after_fail : ℕ → PlanState → PlanState
plan_after_fail number plan = record plan { fails = plan.fails ++ number ∷ [] }
