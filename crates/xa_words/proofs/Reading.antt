-- What `clap` reads of an argument.
use Rattle.std.proofs.Common.{◌≡◌, ◌<◌, ◌≤◌, ◌^◌, ℕ, Bool, true, false, refl, sym, ap, subst, arith, ◌∙◌, find, bytes_eq, option_and_then, Option, Some, None, Result, Ok, Err, codes, option_map}
use Rattle.std.specs.Prelude.{unwrap_or}
use Rattle.std.specs.Str.Parse.{ParsesUnsigned}
use Rattle.std.specs.Borrow.{Bor}
use Rattle.std.specs.Option.{option_map_or}
use Rattle.clap.specs.Facts.{Entry}
use Rattle.clap.specs.Matches.{ReadsOne, first_value, matched_of, one_text}
use Rattle.clap.specs.ValueTests.{is_unsigned_in}
use Rattle.clap.specs.Walk.{Row, Text, one_of, row_of, rows_of}
use Rattle.clap.specs.declared.parser.matches.Found.{Found}
use Rattle.clap.specs.declared.parser.matches.MatchedArg.{MatchedArg}
use Rattle.clap.specs.declared.builder.value_parser.ValueParser.TheVariants.{Unsigned}
use Rattle.clap.proofs.ValueTestLemmas.{accepts-Accepts, Accepts-accepts}
use Rattle.clap.proofs.WalkLemmas.{find_row, first_value-rows, one_text-rows}
use Rattle.xa_words.specs.Given.{source_in}
use Rattle.xa_words.specs.Asks.{IsSet, most_16, most_64, number_in, number_or, text_in}

-- a type of this many bits, whose greatest number is `most`
pub record Holds (bits most : ℕ) : Type 0 where
  pub within : (n : ℕ) → n < 2 ^ bits → n ≤ most
  pub beyond : (n : ℕ) → n ≤ most → n < 2 ^ bits
  pub fits : most < 2 ^ 64

pub read_number : {E : Type 0} (gives : Text → Result ℕ E → Type 0) (bits most absent : ℕ) (text : Text)
    (found : Option ℕ) → Holds bits most → ((r : Result ℕ E) → gives text r → ParsesUnsigned bits 10 text r)
    → ReadsOne gives text found → unwrap_or found absent ≡ number_or most absent text
read_number gives bits most absent text (Some n) holds parses h =
    let read = parses (Ok n) h in
    let below = holds.within _ read.0.1 in
    let far = holds.fits in
    let accepted : is_unsigned_in 0 most text ≡ true =
    Accepts-accepts false (Unsigned 0 most) text (read.0.0, omega arith, omega arith, below) in
    rw accepted read.1
read_number gives bits most absent text None holds parses h = go (is_unsigned_in 0 most text) refl
  where
    go : (b : Bool) → is_unsigned_in 0 most text ≡ b → absent ≡ number_or most absent text
    go true e =
        let accepted = accepts-Accepts false (Unsigned 0 most) text e in
        absurd (parses (Err h.0) h.1 (accepted.0, holds.beyond _ accepted.3))
    go false e = rw e refl

pub has_16 : Holds 16 most_16
has_16 = record {
  within = λ n below. omega arith;
  beyond = λ n below. omega arith;
  fits = omega arith;
}

pub has_64 : Holds 64 most_64
has_64 = record {
  within = λ n below. omega arith;
  beyond = λ n below. omega arith;
  fits = omega arith;
}

pub number_read : {E : Type 0} (gives : Text → Result ℕ E → Type 0) (bits most absent : ℕ) (found : Found) (id : Text)
    (got : Option ℕ) → Holds bits most → ((text : Text) (r : Result ℕ E) → gives text r → ParsesUnsigned bits 10 text r)
    → (one_text found id ≡ None → got ≡ None)
    → ((text : Text) → one_text found id ≡ Some text → ReadsOne gives text got)
    → unwrap_or got absent ≡ number_in (rows_of found) id most absent
number_read gives bits most absent found id got holds parses none value =
    subst (λ o. unwrap_or got absent ≡ option_map_or (number_or most absent) o absent) (one_text-rows found id)
    (go (one_text found id) refl)
  where
    go : (o : Option Text) → one_text found id ≡ o → unwrap_or got absent ≡ option_map_or (number_or most absent) o absent
    go None e = ap (λ o. unwrap_or o absent) (none e)
    go (Some text) e = read_number gives bits most absent text got holds (parses text) (value text e)

pub text_read : (found : Found) (id : Text) (got : Option (Bor Text)) (absent : Bor Text)
    → option_map (λ s. s.now) got ≡ first_value found id
    → (unwrap_or got absent).now ≡ text_in (rows_of found) id absent.now
text_read found id got absent e = go got ∙ ap (λ o. unwrap_or o absent.now) (e ∙ first_value-rows found id)
  where
    go : (got : Option (Bor Text)) → (unwrap_or got absent).now ≡ unwrap_or (option_map (λ s. s.now) got) absent.now
    go None = refl
    go (Some text) = refl

pub set_read : (found : Found) (id : Text) (flag : Bool)
    → (one_text found id ≡ None → flag ≡ false)
    → (one_text found id ≡ Some (codes "true") → flag ≡ true)
    → (one_text found id ≡ Some (codes "false") → flag ≡ false)
    → IsSet (one_of id (rows_of found)) flag
set_read found id flag none value other = record {
  absent = λ e. none (one_text-rows found id ∙ e);
  set = λ e. value (one_text-rows found id ∙ e);
  unset = λ e. other (one_text-rows found id ∙ e);
}

pub source_read : (found : Found) (id : Text) → option_and_then (λ (a : MatchedArg). a.source) (matched_of found id) ≡ source_in id (rows_of found)
source_read found id = go (find (λ e. bytes_eq e.0.now id) found.entries.items) ∙ ap (option_and_then (λ (r : Row). r.source)) (sym (find_row found.entries.items id))
  where
    go : (o : Option Entry) → option_and_then (λ (a : MatchedArg). a.source) (option_map (λ e. e.1) o)
        ≡ option_and_then (λ (r : Row). r.source) (option_map row_of o)
    go None = refl
    go (Some e) = refl
