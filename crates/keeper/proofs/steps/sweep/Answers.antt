use Rattle.keeper.proofs.steps.sweep.Goals as goal

pub returns : goal.returns
returns c = λ need. rw c.step_keeping_state.ensures (c.plan_sweep-planned.ensures need)
