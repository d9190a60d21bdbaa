use Rattle.shares_service.proofs.Asking.{asking}
use Rattle.shares_service.proofs.give_frame.Goals as goal

pub overflow_sub-waiting : goal.overflow_sub-waiting
overflow_sub-waiting c = search asking

pub overflow_add-given : goal.overflow_add-given
overflow_add-given c = search asking

pub returns-then-i-lt-GROUPS : goal.returns-then-i-lt-GROUPS
returns-then-i-lt-GROUPS c = search asking

pub returns : goal.returns
returns c = search asking
