-- Replies without a place, within the limits.
use Rattle.std.proofs.Common.{◌≡◌, ◌≤◌, ℕ, List, length, refl, sym, subst}
use Rattle.xa_limits.specs.declared.TheConstants.{MOST_VALUE, MOST_XIDS}
use Rattle.xa_assoc.specs.Refusals.{IsBare}
use Rattle.xa_frame.specs.Limits.{IsBody}
use Rattle.xa_frame.specs.declared.body.Body.{Body}
use Rattle.xa_frame.specs.declared.body.Body.TheVariants as body
use Rattle.xa_frame.specs.declared.known_branch.KnownBranch.{KnownBranch}
use Rattle.xa_frame.specs.declared.reply.Reply.{Reply}
use Rattle.xa_model.specs.Answer.{carrying}
use Rattle.xa_model.specs.Recovering.{listing}
use Rattle.xa_xid.specs.Triple.{Triple}
use Rattle.xa_manager.specs.Replies.{IsFresh}

pub bare_fresh : (r : Reply) → IsBare r → IsFresh r
bare_fresh r b = record { place = b.0; limits = subst (λ (x : Body). IsBody x) (sym b.1) tt }

pub number_fresh : (r : Reply) (n : ℕ) → r ≡ carrying (body.Number n) → IsFresh r
number_fresh r n e = subst (λ (x : Reply). IsFresh x) (sym e) (record { place = refl; limits = tt })

pub absent_fresh : (r : Reply) → r ≡ carrying body.Absent → IsFresh r
absent_fresh r e = subst (λ (x : Reply). IsFresh x) (sym e) (record { place = refl; limits = tt })

pub value_fresh : (r : Reply) (v : List ℕ) → length v ≤ MOST_VALUE → r ≡ carrying (body.Value v) → IsFresh r
value_fresh r v short e = subst (λ (x : Reply). IsFresh x) (sym e) (record { place = refl; limits = short })

pub listing_fresh : (r : Reply) (xids : List Triple) → length xids ≤ MOST_XIDS → r ≡ listing xids → IsFresh r
listing_fresh r xids few e = subst (λ (x : Reply). IsFresh x) (sym e) (record { place = refl; limits = few })

pub branches_fresh : (r : Reply) (known : List KnownBranch) → length known ≤ MOST_XIDS → r ≡ carrying (body.Branches known) → IsFresh r
branches_fresh r known few e = subst (λ (x : Reply). IsFresh x) (sym e) (record { place = refl; limits = few })

-- of what a get answers
pub ruleset get_replies = (bare_fresh, value_fresh, absent_fresh)
