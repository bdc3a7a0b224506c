-- Lines are read, one after the other.
use Rattle.std.proofs.Common.{◌≡◌, ℕ, List, [], ◌∷◌, ◌++◌, Option, Some, None, Result, Ok, refl, sym, ap, subst, ◌∙◌, append_assoc, append-nil}
use Rattle.std.specs.Io.BufRead.{DropsThrough, drop_through, strip_last}
use Rattle.std.specs.Io.KnownBytes.{Appends, Consumes, IsAtEnd, Keeps}
use Rattle.xa_talk.specs.declared.fault.TalkFault.{TalkFault}
use Rattle.xa_talk.specs.declared.manner.Manner.{Manner}
use Rattle.xa_talk.specs.Talks.{LineTalked, LinesTalked, NextEnds, ReadsLine, Talks}

-- at the end nothing is taken
pub keeps_end : (input input' : Option (List ℕ)) → IsAtEnd input → DropsThrough input input' 10 → Keeps input input'
keeps_end None input' none drops = tt
keeps_end (Some xs) None none drops = cc
keeps_end (Some xs) (Some ys) none drops =
    let left : Some ys ≡ Some (drop_through 10 []) = drops ∙ ap (λ (l : List ℕ). Some (drop_through 10 l)) none in
    let is : ys ≡ [] = cc in
    is ∙ sym none

pub nothing_consumed : (input : Option (List ℕ)) → Consumes input input []
nothing_consumed None = tt
nothing_consumed (Some xs) = refl

-- one line more is talked
pub line_more : {C : Type 0} (manner : Manner) (sent left : C → Option (List ℕ)) (input behind input' : Option (List ℕ)) (numbered next numbered' : List (Option C)) (lines : List (List ℕ)) (line text first : List ℕ)
    → LinesTalked manner sent left input numbered lines text behind next → ReadsLine behind line input'
    → LineTalked {X = Unit {0}} manner sent left (strip_last 10 line) (Ok tt) first next numbered'
    → LinesTalked manner sent left input numbered (lines ++ line ∷ []) (text ++ first) input' numbered'
line_more {C} manner sent left input behind input' numbered next numbered' [] line text first (none, same, stay) reads talks = (
  input',
  first,
  [],
  numbered',
  subst (λ (i : Option (List ℕ)). ReadsLine i line input') same reads,
  subst (λ (p : List (Option C)). LineTalked {X = Unit {0}} manner sent left (strip_last 10 line) (Ok tt) first p numbered') stay talks,
  ap (λ (l : List ℕ). l ++ first) none ∙ sym (append-nil first),
  (refl, refl, refl),
)
line_more manner sent left input behind input' numbered next numbered' (l ∷ ls) line text first (mid, one, others, between, read, talked, is, rest) reads talks = (
  mid,
  one,
  others ++ first,
  between,
  read,
  talked,
  ap (λ (t : List ℕ). t ++ first) is ∙ append_assoc one others first,
  line_more manner sent left mid behind input' between next numbered' ls line others first rest reads talks,
)

-- the script ends after these lines, and nothing more was written
pub stopped : {C X : Type 0} (manner : Manner) (sent left : C → Option (List ℕ)) (end : Result X TalkFault) (input behind input' output output' : Option (List ℕ)) (numbered : List (Option C)) (lines : List (List ℕ)) (text : List ℕ)
    → LinesTalked manner sent left input [] lines text behind numbered → NextEnds manner sent left end behind numbered [] input' → Appends output output' text
    → Talks manner sent left end input input' output output'
stopped manner sent left end input behind input' output output' numbered lines text talked ended written = record {
  lines = lines;
  text = text;
  behind = behind;
  numbered = numbered;
  talked = talked;
  last = [];
  ended = ended;
  written = subst (λ (t : List ℕ). Appends output output' t) (sym (append-nil text)) written;
}
