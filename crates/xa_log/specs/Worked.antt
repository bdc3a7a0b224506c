-- Worked logs of two files, in bytes: in one of format 1 the first boot's record with a branch prepared, and after the
-- checkpoint of the second boot, in one of format 2, its record with the branch held. The digests are sha256sum's.
use Rattle.std.specs.Prelude.{◌≡◌, List, [], ◌∷◌, ◌++◌, ℕ, true, false, Some, None, take, slice_set}
use Rattle.xa_log.specs.declared.fault.OpenFault.TheVariants.{NotALog, TooNew, TooLong, Damaged}
use Rattle.xa_log.specs.declared.format.Format.TheVariants.{One, Two}
use Rattle.xa_log.specs.Believed.Chain.{magic, start, record_of, preamble, logged}
use Rattle.xa_log.specs.Believed.LeftOut.{has_own, is_own, left_out}
use Rattle.xa_log.specs.Believed.Pair.{beats, on_first, logged_pair, pair_fault}
use Rattle.xa_log.specs.Believed.Unfit.{unfit_of}
use Rattle.xa_log.specs.declared.unfit.Unfit.TheVariants.{Neither, MissingFirst, MissingSecond, StrayFirst, StraySecond}

abbrev pub opened : List ℕ
opened = 1 ∷ 0 ∷ 0 ∷ 0 ∷ 1 ∷ []

abbrev pub prepared : List ℕ
prepared =
    2 ∷ 0 ∷ 0 ∷ 0 ∷ 1 ∷ 1 ∷ 1 ∷ 170 ∷ 187 ∷ 0 ∷ 0 ∷ 0 ∷ 1 ∷ 0 ∷ 0 ∷ 0 ∷
    1 ∷ 0 ∷ 1 ∷ 1 ∷ 107 ∷ 1 ∷ 0 ∷ 1 ∷ 118 ∷ []

-- the record at 8
abbrev pub opened_record : List ℕ
opened_record =
    0 ∷ 0 ∷ 0 ∷ 5 ∷ 1 ∷ 0 ∷ 0 ∷ 0 ∷ 1 ∷ 124 ∷ 132 ∷ 88 ∷ 238 ∷ 58 ∷ 98 ∷ 16 ∷
    171 ∷ 46 ∷ 106 ∷ 95 ∷ 128 ∷ 227 ∷ 129 ∷ 143 ∷ 147 ∷ 0 ∷ 242 ∷ 103 ∷ 43 ∷ 148 ∷ 109 ∷ 44 ∷
    116 ∷ 19 ∷ 33 ∷ 23 ∷ 237 ∷ 236 ∷ 31 ∷ 145 ∷ 242 ∷ []

-- the record at 49
abbrev pub prepared_record : List ℕ
prepared_record =
    0 ∷ 0 ∷ 0 ∷ 25 ∷ 2 ∷ 0 ∷ 0 ∷ 0 ∷ 1 ∷ 1 ∷ 1 ∷ 170 ∷ 187 ∷ 0 ∷ 0 ∷ 0 ∷
    1 ∷ 0 ∷ 0 ∷ 0 ∷ 1 ∷ 0 ∷ 1 ∷ 1 ∷ 107 ∷ 1 ∷ 0 ∷ 1 ∷ 118 ∷ 50 ∷ 15 ∷ 107 ∷
    28 ∷ 108 ∷ 49 ∷ 214 ∷ 71 ∷ 47 ∷ 75 ∷ 26 ∷ 210 ∷ 81 ∷ 231 ∷ 18 ∷ 242 ∷ 251 ∷ 74 ∷ 1 ∷
    141 ∷ 179 ∷ 94 ∷ 159 ∷ 247 ∷ 129 ∷ 70 ∷ 49 ∷ 145 ∷ 88 ∷ 112 ∷ 66 ∷ 35 ∷ []

-- with its closing length at 110
abbrev pub first_file : List ℕ
first_file = magic One ++ opened_record ++ prepared_record ++ 0 ∷ 0 ∷ 0 ∷ 0 ∷ []

-- ---- the second file

abbrev pub again : List ℕ
again = 1 ∷ 0 ∷ 0 ∷ 0 ∷ 2 ∷ []

abbrev pub held : List ℕ
held =
    8 ∷ 0 ∷ 0 ∷ 0 ∷ 1 ∷ 1 ∷ 1 ∷ 170 ∷ 187 ∷ 0 ∷ 0 ∷ 0 ∷ 1 ∷ 0 ∷ 0 ∷ 0 ∷
    1 ∷ 0 ∷ 1 ∷ 1 ∷ 107 ∷ 1 ∷ 0 ∷ 1 ∷ 118 ∷ []

abbrev pub again_record : List ℕ
again_record =
    0 ∷ 0 ∷ 0 ∷ 5 ∷ 1 ∷ 0 ∷ 0 ∷ 0 ∷ 2 ∷ 164 ∷ 232 ∷ 243 ∷ 118 ∷ 174 ∷ 177 ∷ 62 ∷
    62 ∷ 2 ∷ 75 ∷ 124 ∷ 176 ∷ 202 ∷ 183 ∷ 118 ∷ 55 ∷ 44 ∷ 7 ∷ 167 ∷ 134 ∷ 245 ∷ 252 ∷ 29 ∷
    102 ∷ 237 ∷ 250 ∷ 247 ∷ 143 ∷ 31 ∷ 225 ∷ 16 ∷ 131 ∷ []

abbrev pub held_record : List ℕ
held_record =
    0 ∷ 0 ∷ 0 ∷ 25 ∷ 8 ∷ 0 ∷ 0 ∷ 0 ∷ 1 ∷ 1 ∷ 1 ∷ 170 ∷ 187 ∷ 0 ∷ 0 ∷ 0 ∷
    1 ∷ 0 ∷ 0 ∷ 0 ∷ 1 ∷ 0 ∷ 1 ∷ 1 ∷ 107 ∷ 1 ∷ 0 ∷ 1 ∷ 118 ∷ 196 ∷ 219 ∷ 239 ∷
    99 ∷ 236 ∷ 120 ∷ 9 ∷ 193 ∷ 78 ∷ 34 ∷ 43 ∷ 161 ∷ 171 ∷ 220 ∷ 198 ∷ 128 ∷ 136 ∷ 63 ∷ 215 ∷
    38 ∷ 231 ∷ 25 ∷ 194 ∷ 56 ∷ 68 ∷ 213 ∷ 55 ∷ 157 ∷ 8 ∷ 29 ∷ 118 ∷ 176 ∷ []

abbrev pub second_file : List ℕ
second_file = magic Two ++ again_record ++ held_record ++ 0 ∷ 0 ∷ 0 ∷ 0 ∷ 0 ∷ []

-- before its seal: the first length is 0
abbrev pub unsealed : List ℕ
unsealed = slice_set second_file 11 0

-- ---- what an earlier checkpoint left after these records

abbrev pub known : List ℕ
known = 9 ∷ 0 ∷ 0 ∷ 0 ∷ 1 ∷ 1 ∷ 1 ∷ 170 ∷ 187 ∷ 1 ∷ []

-- the digest of the record that follows them, if it has that body
abbrev pub known_digest : List ℕ
known_digest =
    138 ∷ 17 ∷ 255 ∷ 76 ∷ 220 ∷ 88 ∷ 205 ∷ 10 ∷ 252 ∷ 8 ∷ 161 ∷ 157 ∷ 49 ∷ 94 ∷ 117 ∷
    174 ∷ 116 ∷ 220 ∷ 46 ∷ 211 ∷ 22 ∷ 31 ∷ 102 ∷ 62 ∷ 35 ∷ 237 ∷ 46 ∷ 246 ∷ 248 ∷ 109 ∷
    174 ∷ 243 ∷ []

-- The checkpoint of the second boot stands before the third record of an earlier one with the same two records, and an
-- append was torn after its length: what was left of that record's body is as given.
abbrev pub torn_behind : List ℕ → List ℕ
torn_behind left = magic Two ++ again_record ++ held_record ++ (0 ∷ 0 ∷ 0 ∷ 10 ∷ []) ++ left ++ known_digest

-- XARMLOG3
abbrev pub newer : List ℕ
newer = 88 ∷ 65 ∷ 82 ∷ 77 ∷ 76 ∷ 79 ∷ 71 ∷ 51 ∷ []

-- ---- which file is current

-- the one with the greater generation, whether it is the second or the first
abbrev pub GreaterGeneration : Type 0
GreaterGeneration =
    (on_first first_file second_file ≡ false) × (logged_pair first_file second_file ≡ again ∷ held ∷ [])
    × (on_first second_file first_file ≡ true) × (logged_pair second_file first_file ≡ again ∷ held ∷ [])

-- until its seal a checkpoint is no record
abbrev pub BeforeTheSeal : Type 0
BeforeTheSeal =
    (on_first first_file unsealed ≡ true) × (logged_pair first_file unsealed ≡ opened ∷ prepared ∷ [])
    × (on_first unsealed first_file ≡ false) × (logged_pair unsealed first_file ≡ opened ∷ prepared ∷ [])

-- With only the closing length over it that record comes back; with its first byte cleared too it doesn't.
abbrev pub StaleTail : Type 0
StaleTail =
    (logged (torn_behind known) ≡ again ∷ held ∷ known ∷ [])
    × (logged (torn_behind (slice_set known 0 0)) ≡ again ∷ held ∷ [])

-- On a tie the one that has records, and the first if both have or neither has. A first body of four bytes is
-- generation 0. What the first file says of itself, and what the second one says.
abbrev pub Ties : Type 0
Ties =
    (beats true (prepared ∷ []) (opened ∷ []) ≡ true) × (beats false (prepared ∷ []) (opened ∷ []) ≡ false)
    × (beats false ((1 ∷ 0 ∷ 0 ∷ 9 ∷ []) ∷ []) [] ≡ true) × (beats true [] ((1 ∷ 0 ∷ 0 ∷ 9 ∷ []) ∷ []) ≡ false)
    × (on_first (preamble One) (preamble One) ≡ true) × (on_first (preamble One) (magic One) ≡ true)

-- if one of them is no log, the other one
abbrev pub OneLog : Type 0
OneLog =
    (on_first [] (preamble One) ≡ false) × (on_first (preamble One) [] ≡ true)
    × (logged_pair first_file [] ≡ opened ∷ prepared ∷ []) × (logged_pair [] first_file ≡ opened ∷ prepared ∷ [])

-- XARMLOG2 alone is a log without records, and comes after one of format 1 that has some
abbrev pub SecondFormat : Type 0
SecondFormat =
    (pair_fault 114 (magic Two) [] ≡ None) × (logged_pair (magic Two) [] ≡ [])
    × (on_first (magic Two) first_file ≡ false) × (logged_pair (magic Two) first_file ≡ opened ∷ prepared ∷ [])

-- TooLong of either comes before TooNew of either, and that before none being a log
abbrev pub Faults : Type 0
Faults =
    (pair_fault 115 first_file second_file ≡ None) × (pair_fault 115 [] second_file ≡ None)
    × (pair_fault 113 first_file newer ≡ Some TooLong) × (pair_fault 114 newer second_file ≡ Some TooLong)
    × (pair_fault 114 first_file newer ≡ Some TooNew) × (pair_fault 114 newer [] ≡ Some TooNew)
    × (pair_fault 114 [] [] ≡ Some NotALog)

-- One bit of a body flipped, or the file cut after a record: in the snapshot of the second generation it is reported, unless
-- the next body begins with 0 or the file ends after a length. In a log of the first generation it isn't.
abbrev pub Damages : Type 0
Damages =
    (pair_fault 115 first_file second_file ≡ None) × (pair_fault 115 first_file (slice_set second_file 60 171) ≡ Some Damaged)
    × (pair_fault 115 first_file (take 49 second_file) ≡ Some Damaged)
    × (pair_fault 115 first_file (slice_set second_file 53 0) ≡ None)
    × (pair_fault 115 first_file (take 53 second_file) ≡ None) × (pair_fault 115 (slice_set first_file 60 171) [] ≡ None)

-- a log of format 1 whose name a torn write replaced
abbrev pub renamed : List ℕ
renamed = magic Two ++ record_of (start One) again ++ 0 ∷ 0 ∷ 0 ∷ 0 ∷ []

-- One bit of the first record flipped, of its digest, of its number, of its length: that is reported in a log of the second
-- generation, beside the first one. With its length zeroed it is a checkpoint without its seal, and another name comes of a torn
-- header; in a log of the first generation it may be a torn append.
abbrev pub LostFirst : Type 0
LostFirst =
    (pair_fault 115 first_file (slice_set second_file 17 165) ≡ Some Damaged)
    × (pair_fault 115 (slice_set second_file 16 3) first_file ≡ Some Damaged)
    × (pair_fault 115 first_file (slice_set second_file 11 4) ≡ Some Damaged)
    × (pair_fault 115 first_file unsealed ≡ None) × (pair_fault 115 first_file renamed ≡ None)
    × (pair_fault 115 (slice_set first_file 17 125) [] ≡ None)

-- a log of three records, of which the second one stands at 49, with its length there, its body from 53 on, its digest from 78
abbrev pub three_records : List ℕ
three_records = torn_behind known ++ 0 ∷ 0 ∷ 0 ∷ 0 ∷ []

-- Of the second record one byte changed: the third one is found, after a body and after a digest that isn't its own, and
-- after a length of one byte less, which differs in a bit; not after one that differs in two, or of 0. The log of all three
-- leaves nothing out.
abbrev pub LeftBehind : Type 0
LeftBehind =
    (left_out Two (again ∷ []) (slice_set three_records 60 171) ≡ known ∷ [])
    × (left_out Two (again ∷ []) (slice_set three_records 78 197) ≡ known ∷ [])
    × (left_out Two (again ∷ []) (slice_set three_records 52 24) ≡ known ∷ [])
    × (left_out Two (again ∷ []) (slice_set three_records 52 26) ≡ []) × (left_out Two (again ∷ []) (slice_set three_records 52 0) ≡ [])
    × (left_out Two (again ∷ held ∷ known ∷ []) three_records ≡ [])

-- A branch prepared in the first boot belongs to a log of the first generation, not of the second; a snapshot's record
-- to none. It counts from 262,144 bytes after the log's end on, also if another comes before it.
abbrev pub OwnRecords : Type 0
OwnRecords =
    (is_own 0 prepared ≡ true) × (is_own 1 prepared ≡ true) × (is_own 2 prepared ≡ false) × (is_own 1 held ≡ false)
    × (has_own 1 262144 (prepared ∷ []) ≡ true) × (has_own 1 262143 (prepared ∷ []) ≡ false)
    × (has_own 1 262098 (known ∷ prepared ∷ []) ≡ true) × (has_own 1 262097 (known ∷ prepared ∷ []) ≡ false)

-- ---- which of two files isn't a log's

-- what is left of XARMLOG2, and what is none of it
abbrev pub cut_name : List ℕ
cut_name = 88 ∷ 65 ∷ 0 ∷ 0 ∷ 76 ∷ []

abbrev pub other_name : List ℕ
other_name = 88 ∷ 65 ∷ 82 ∷ 77 ∷ 76 ∷ 79 ∷ 71 ∷ 120 ∷ []

-- The second file is missing from the second generation on, the first one beside any log. Neither is if an opening
-- says that one is too long, or too new.
abbrev pub Unfits : Type 0
Unfits =
    (unfit_of 115 first_file second_file ≡ Neither) × (unfit_of 115 [] [] ≡ Neither)
    × (unfit_of 115 first_file [] ≡ Neither) × (unfit_of 115 first_file cut_name ≡ Neither)
    × (unfit_of 115 second_file [] ≡ MissingSecond) × (unfit_of 115 second_file cut_name ≡ MissingSecond)
    × (unfit_of 115 [] first_file ≡ MissingFirst) × (unfit_of 115 cut_name (magic One) ≡ MissingFirst)
    × (unfit_of 115 other_name second_file ≡ StrayFirst) × (unfit_of 115 other_name [] ≡ StrayFirst)
    × (unfit_of 115 first_file other_name ≡ StraySecond) × (unfit_of 115 [] other_name ≡ StraySecond)
    × (unfit_of 113 first_file other_name ≡ Neither) × (unfit_of 115 newer other_name ≡ Neither)
    × (unfit_of 115 other_name newer ≡ Neither)
