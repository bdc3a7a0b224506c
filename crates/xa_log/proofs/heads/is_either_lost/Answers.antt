use Rattle.std.proofs.Common.{◌∙◌, ◌||◌, ap, sym, Bool}
use Rattle.std.proofs.lemmas.Bool.{or_left}
use Rattle.xa_log.specs.Believed.Damage.{is_headless}
use Rattle.xa_log.proofs.heads.is_either_lost.Goals as goal

pub returns-then-has_lost_first : goal.returns-then-has_lost_first
returns-then-has_lost_first c = λ a window b other_window one two.
    let first = c.has_lost_first.ensures a window one in
    c.if-has_lost_first.true ∙ sym (or_left (is_headless a) (is_headless b) (sym first ∙ c.if-has_lost_first.true))

pub returns-else-has_lost_first : goal.returns-else-has_lost_first
returns-else-has_lost_first c = λ a window b other_window one two.
    let first = c.has_lost_first.ensures a window one in
    c.has_lost_first-else-has_lost_first.ensures b other_window two ∙ sym (ap (λ (x : Bool). x || is_headless b) (sym first ∙ c.if-has_lost_first.false))
