-- Requests that are within the limits, and hold what a program's types hold anyway.
use Rattle.std.proofs.Common.{List, [], ◌∷◌}
use Rattle.std.specs.List.{AllByRecursion}
use Rattle.xa_frame.specs.Limits.{Holds, IsRequest}
use Rattle.xa_model.specs.Events.{IsAsked}
use Rattle.xa_manager.specs.declared.together.Asked.{Asked}

pub all_asked : (calls : List Asked) → AllByRecursion (λ c. IsRequest c.request) calls → AllByRecursion (λ c. Holds c.request) calls
    → AllByRecursion (λ c. IsAsked c.request) calls
all_asked [] limits held = tt
all_asked (c ∷ cs) limits held = (record { limits = limits.0; held = held.0 }, all_asked cs limits.1 held.1)
