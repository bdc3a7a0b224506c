-- What a branch has written, by the list of its keys.
use Rattle.std.specs.Prelude.{ℕ, List, Option, Some, None, fold, bytes_eq, if◌then◌else◌}
use Rattle.xa_codes.specs.declared.write.Write.{Write}
use Rattle.slab.specs.Slab.{Slab}
use Rattle.mv_chain.specs.declared.pool.Pool.{Pool}
use Rattle.mv_chain.specs.declared.chain.Chain.{Chain}
use Rattle.mv_chain.specs.Chain.{shows}
use Rattle.mv_rules.specs.Held.{versions_at}
use Rattle.mv_rules.specs.declared.own.Own.{Own}

abbrev pub as_write : (List ℕ × Option (List ℕ)) → Write
as_write e = record { key = e.0; value = e.1 }

-- what the branch sees at its key o, if that is the key asked for
abbrev pub collecting : ℕ → Pool → Slab Chain → List ℕ → Option (Option (List ℕ)) → Own → Option (Option (List ℕ))
collecting t pool chains key best o =
    if bytes_eq o.key key then Some (shows t (versions_at o.index pool chains)).value else best

-- what the branch sees at the key, if it is in the list
abbrev pub collected : ℕ → Pool → Slab Chain → List ℕ → List Own → Option (Option (List ℕ))
collected t pool chains key own = fold (collecting t pool chains key) None own
