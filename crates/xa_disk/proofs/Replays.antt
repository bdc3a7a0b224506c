-- One call more of a replay.
use Rattle.std.proofs.Common.{◌≡◌, ℕ, ◌+◌, ◌<◌, List, [], ◌∷◌, ◌++◌, length, take, get_or, sym, ◌∙◌, ap}
use Rattle.std.proofs.lemmas.List.{take_more}
use Rattle.xa_disk.specs.declared.call.Call.{Call}
use Rattle.xa_disk.specs.Replay.{after, replay, replay_more, at_first}

pub replay_take : (first : List ℕ) (calls : List Call) (i : ℕ) (call : Call) → i < length calls → call ≡ get_or calls i call → replay first (take (i + 1) calls) ≡ after call (replay first (take i calls))
replay_take first calls i call lt is =
    ap (λ (l : List Call). replay first l) (take_more calls i call lt)
    ∙ ap (λ (x : Call). replay first (take i calls ++ x ∷ [])) (sym is)
    ∙ replay_more (at_first first) (take i calls) call
