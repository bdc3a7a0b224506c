-- How long a log of records is.
use Rattle.std.proofs.Common.{◌≡◌, ◌+◌, ℕ, List, [], ◌∷◌, map, length, refl, arith}
use Rattle.std.proofs.lemmas.List.{length-append}
use Rattle.xa_record.specs.Spelling.{spelled}
use Rattle.xa_record.specs.declared.record.Record.{Record}
use Rattle.xa_log.specs.declared.format.Format.{Format}
use Rattle.xa_log.specs.Believed.Chain.{digest, record_of, records, start, text}
use Rattle.xa_log.proofs.Records.{length-text, length-record_of}
use Rattle.xa_model.specs.Fold.{sizes}

records_size : (prev : List ℕ) (rs : List Record) → length (records prev (map spelled rs)) ≡ sizes rs
records_size prev [] = refl
records_size prev (r ∷ rs) =
    let rest = records_size (digest prev (spelled r)) rs in
    omega (arith, rest, length-append (record_of prev (spelled r)) (records (digest prev (spelled r)) (map spelled rs)), length-record_of prev (spelled r))

pub text_size : (format : Format) (rs : List Record) → length (text format (map spelled rs)) ≡ 8 + sizes rs
text_size format rs = omega (arith, length-text format (map spelled rs), records_size (start format) rs)

-- of one record, with its closing length
pub one_size : (format : Format) (body : List ℕ) → length (text format (body ∷ [])) ≡ 8 + (36 + length body)
one_size format body =
    omega (arith, length-text format (body ∷ []), length-append (record_of (start format) body) (records (digest (start format) body) []), length-record_of (start format) body)

pub none_size : (format : Format) → length (text format []) ≡ 8
none_size format = length-text format []
