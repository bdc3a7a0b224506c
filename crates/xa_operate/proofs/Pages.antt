-- Of branches that are listed it is asked who is at work for them, one after the other.
use Rattle.std.proofs.Common.{◌≡◌, ◌≤◌, List, [], ◌∷◌, ◌++◌, length, drop, get_or, ap, ◌∙◌, arith, append_assoc}
use Rattle.xa_frame.specs.declared.known_branch.KnownBranch.{KnownBranch}
use Rattle.xa_operate.specs.Agendas.{session_of, sessions_of}
use Rattle.xa_operate.specs.declared.asking.Asking.{Asking}
use Rattle.xa_operate.specs.declared.task.Task.{Task}

-- one branch more
pub session_more : (task : Task) (rest : List KnownBranch) (branch d : KnownBranch) (agenda agenda' whole : List Asking) → 1 ≤ length rest → branch ≡ get_or rest 0 d
    → agenda' ≡ agenda ++ session_of task branch (drop 1 rest) → agenda ++ sessions_of task rest ≡ whole → agenda' ++ sessions_of task (drop 1 rest) ≡ whole
session_more task [] branch d agenda agenda' whole some is more so = absurd (omega (arith, some))
session_more task (b ∷ rest) branch d agenda agenda' whole some is more so =
    ap (λ (l : List Asking). l ++ sessions_of task rest) (more ∙ ap (λ (x : KnownBranch). agenda ++ session_of task x rest) is)
    ∙ append_assoc agenda (session_of task b rest) (sessions_of task rest) ∙ so
