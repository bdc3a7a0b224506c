-- XIDs whose spelling is known: the definitions compute to it.
use Rattle.std.proofs.Common.{◌≡◌, pos, negsuc, [], ◌∷◌, refl}
use Rattle.std.specs.Fmt.{digits}
use Rattle.std.specs.Prelude.{codes}
use Rattle.xa_xid.specs.Triple.{Triple}
use Rattle.xa_xid.specs.Spelling.{bytes_of, text_of}

abbrev short : Triple
short = record { format = pos 1; gtrid = 170 ∷ []; bqual = 187 ∷ [] }

abbrev joined : Triple
joined = record { format = pos 1; gtrid = 170 ∷ 187 ∷ []; bqual = [] }

abbrev least : Triple
least = record { format = negsuc 2147483647; gtrid = 0 ∷ []; bqual = [] }

short_bytes : bytes_of short ≡ 0 ∷ 0 ∷ 0 ∷ 1 ∷ 1 ∷ 1 ∷ 170 ∷ 187 ∷ []
short_bytes = refl

least_bytes : bytes_of least ≡ 128 ∷ 0 ∷ 0 ∷ 0 ∷ 1 ∷ 0 ∷ 0 ∷ []
least_bytes = refl

short_text : text_of short ≡ codes "1:aa:bb"
unfolding digits
short_text = refl

joined_text : text_of joined ≡ codes "1:aabb:"
unfolding digits
joined_text = refl

least_text : text_of least ≡ codes "-2147483648:00:"
unfolding digits
least_text = refl
