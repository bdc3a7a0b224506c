-- C193's names of the codes.
use Rattle.std.specs.Prelude.{ℕ, ℤ, pos, negsuc, List, [], ◌∷◌, codes, find, unwrap_or}
use Rattle.std.specs.Option.{option_map}
use Rattle.std.specs.Ordering.{int_eq}

-- each code with its name, as C193's header lists them
abbrev pub named : List (ℤ × List ℕ)
named =
    (pos 100, codes "XA_RBROLLBACK") ∷ (pos 101, codes "XA_RBCOMMFAIL") ∷ (pos 102, codes "XA_RBDEADLOCK")
    ∷ (pos 103, codes "XA_RBINTEGRITY") ∷ (pos 104, codes "XA_RBOTHER") ∷ (pos 105, codes "XA_RBPROTO")
    ∷ (pos 106, codes "XA_RBTIMEOUT") ∷ (pos 107, codes "XA_RBTRANSIENT") ∷ (pos 9, codes "XA_NOMIGRATE")
    ∷ (pos 8, codes "XA_HEURHAZ") ∷ (pos 7, codes "XA_HEURCOM") ∷ (pos 6, codes "XA_HEURRB")
    ∷ (pos 5, codes "XA_HEURMIX") ∷ (pos 4, codes "XA_RETRY") ∷ (pos 3, codes "XA_RDONLY") ∷ (pos 0, codes "XA_OK")
    ∷ (negsuc 1, codes "XAER_ASYNC") ∷ (negsuc 2, codes "XAER_RMERR") ∷ (negsuc 3, codes "XAER_NOTA")
    ∷ (negsuc 4, codes "XAER_INVAL") ∷ (negsuc 5, codes "XAER_PROTO") ∷ (negsuc 6, codes "XAER_RMFAIL")
    ∷ (negsuc 7, codes "XAER_DUPID") ∷ (negsuc 8, codes "XAER_OUTSIDE") ∷ []

-- the name of a code, or a question mark
abbrev pub name_of : ℤ → List ℕ
name_of code = unwrap_or (option_map (λ entry. entry.1) (find (λ entry. int_eq entry.0 code) named)) (codes "?")
