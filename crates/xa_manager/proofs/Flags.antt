-- The rows that a start has by its flags.
use Rattle.std.proofs.Common.{◌≡◌, ℕ, Bool, true, false, cond, refl}
use Rattle.xa_codes.specs.Flags.{has}
use Rattle.xa_codes.specs.declared.flags.TheConstants.{TMJOIN, TMRESUME}
use Rattle.xa_frame.specs.declared.reply.Reply.{Reply}
use Rattle.xa_xid.specs.Triple.{Triple}
use Rattle.xa_model.specs.Answer.{Answer}
use Rattle.xa_model.specs.Associations.{join_by, resume_by, begin_by, start_by}
use Rattle.xa_manager.specs.View.{View}
use Rattle.xa_manager.specs.Stands.{Follows}
use Rattle.xa_manager.proofs.Rows.{follows_as}

second : (a b : Bool) (x y z : Answer) → a ≡ false → b ≡ true → cond a x (cond b y z) ≡ y
second a b x y z ea eb = rw (ea, eb) refl

third : (a b : Bool) (x y z : Answer) → a ≡ false → b ≡ false → cond a x (cond b y z) ≡ z
third a b x y z ea eb = rw (ea, eb) refl

pub start_resumes : (m m' : View) (n flags : ℕ) (xid : Triple) (reply : Reply) → has flags TMJOIN ≡ false → has flags TMRESUME ≡ true → Follows m (λ s. resume_by s n xid) reply m' → Follows m (λ s. start_by s n flags xid) reply m'
start_resumes m m' n flags xid reply ea eb f =
    follows_as m m' (λ s. resume_by s n xid) (λ s. start_by s n flags xid) reply (λ s st. second (has flags TMJOIN) (has flags TMRESUME) (join_by s n xid) (resume_by s n xid) (begin_by s n xid) ea eb) f

pub start_begins : (m m' : View) (n flags : ℕ) (xid : Triple) (reply : Reply) → has flags TMJOIN ≡ false → has flags TMRESUME ≡ false → Follows m (λ s. begin_by s n xid) reply m' → Follows m (λ s. start_by s n flags xid) reply m'
start_begins m m' n flags xid reply ea eb f =
    follows_as m m' (λ s. begin_by s n xid) (λ s. start_by s n flags xid) reply (λ s st. third (has flags TMJOIN) (has flags TMRESUME) (join_by s n xid) (resume_by s n xid) (begin_by s n xid) ea eb) f
