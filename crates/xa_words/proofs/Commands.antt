-- Words that nothing refuses name one of the commands.
use Rattle.std.proofs.Common.{◌≡◌, ◌∙◌, ◌⊎◌, ◌&&◌, ◌||◌, ℕ, Bool, true, false, not, cond, suc, refl, sym, ap, subst, arith, inl, inr, true≢false, List, [], ◌∷◌, length, fold, find, Option, Some, None, is_some, IsSomeAnd, option_map, codes, bytes_eq}
use Rattle.std.proofs.lemmas.Slice.Eq.{bytes_eq-Decides}
use Rattle.clap.specs.Faults.{check_fault, defaults_fault, entered_fault, fault_of, other_fault, settle_fault, step_fault, turn_fault, walk_fault, word_fault}
use Rattle.clap.specs.Kinds.{Kinds, or_else}
use Rattle.clap.specs.declared.error.kind.ErrorKind.{ErrorKind}
use Rattle.clap.specs.declared.error.kind.ErrorKind.TheVariants.{DisplayHelp, InvalidSubcommand, MissingSubcommand}
use Rattle.clap.specs.Lexer.{long_of, short_of}
use Rattle.clap.specs.Simple.{Shape, argument_words, built, entered, label_of, names_of, rows_at, subcommand_of}
use Rattle.clap.specs.Walk.{Held, Names, Outcome, Row, Rule, Step, Text, Waiting, Walk, after_flag, after_step, answers_to, arg_by_index, done, finished, idle, long_or_other, next, nothing_held, option, plain, plain_word, positional, refused, settled, short_or_plain, subcommand, subcommand_met, subcommand_or_other, to_positional, trailing, value, waits, walk, walk_from, walked, walked_from, word_met}
use Rattle.xa_words.specs.Asks.{IsCommand}
use Rattle.xa_words.specs.Line.{xarm}

or_else_first : (a b : Kinds) → or_else a b ≡ [] → a ≡ []
or_else_first [] b e = refl
or_else_first (k ∷ ks) b e = e

some_kind : (k : ErrorKind) (ks : Kinds) → k ∷ ks ≡ [] → ⊥
some_kind k ks e =
    let bad : suc (length ks) ≡ 0 = ap length e in
    absurd (omega arith)

or_else_second : (a b : Kinds) → or_else a b ≡ [] → b ≡ []
or_else_second [] b e = e
or_else_second (k ∷ ks) b e = absurd (some_kind k ks e)

-- the first and the last of a level's faults
level_passes : (a b c d e : Kinds) → or_else a (or_else b (or_else c (or_else d e))) ≡ [] → (a ≡ []) × (e ≡ [])
level_passes a b c d e none = (
  or_else_first a _ none,
  or_else_second d e (or_else_second c _ (or_else_second b _ (or_else_second a _ none))),
)

-- ---- no word that isn't refused is `help`

abbrev EntersNoHelp : Step → Type 0
EntersNoHelp (subcommand name) = bytes_eq name (codes "help") ≡ false
EntersNoHelp _ = Unit {0}

abbrev StopsAtNoHelp : Option (Text × List Text) → Type 0
StopsAtNoHelp None = Unit {0}
StopsAtNoHelp (Some stop) = bytes_eq stop.0 (codes "help") ≡ false

plain_enters : (c : List Rule) (waiting : Waiting) (word : Text) (h : Held) → EntersNoHelp (plain_word c waiting word h).1
plain_enters c idle word h = tt
plain_enters c (option id) word h = tt
plain_enters c positional word h = tt

flag_enters : (c : List Rule) (waiting : Waiting) (word : Text) (h : Held) (outcome : Outcome)
    → EntersNoHelp (after_flag c waiting word h outcome).1
flag_enters c waiting word h done = tt
flag_enters c waiting word h (waits id) = tt
flag_enters c waiting word h plain = plain_enters c waiting word h
flag_enters c waiting word h refused = plain_enters c waiting word h

short_enters : (c : List Rule) (waiting : Waiting) (word : Text) (flags : Option Text) (h : Held)
    → EntersNoHelp (short_or_plain c waiting word flags h).1
short_enters c waiting word (Some flags) h = flag_enters c waiting word _ _
short_enters c waiting word None h = plain_enters c waiting word h

long_enters : (c : List Rule) (waiting : Waiting) (word : Text) (name : Option (Text × Option Text)) (h : Held)
    → EntersNoHelp (long_or_other c waiting word name h).1
long_enters c waiting word (Some name) h = flag_enters c waiting word _ _
long_enters c waiting word None h = short_enters c waiting word (short_of word) h

other_enters : (s : Shape) (met : Option Text) (waiting : Waiting) (position : ℕ) (word : Text) (h : Held)
    → s.disable_help_subcommand ≡ false → other_fault s met word h ≡ []
    → EntersNoHelp (subcommand_or_other s.rules met waiting position word h).1
other_enters s (Some name) waiting position word h helps none =
    go (bytes_eq name (codes "help")) s.disable_help_subcommand helps none
  where
    go : (b d : Bool) → d ≡ false → cond (b && not d) (DisplayHelp ∷ InvalidSubcommand ∷ []) [] ≡ [] → b ≡ false
    go false d helps none = refl
    go true true helps none = absurd (true≢false helps)
    go true false helps none = absurd (some_kind _ _ none)
other_enters s None waiting position word h helps none = go (bytes_eq word (45 ∷ 45 ∷ []))
  where
    go : (b : Bool) → EntersNoHelp (cond b (h, trailing position) (long_or_other s.rules waiting word (long_of word) h)).1
    go true = tt
    go false = long_enters s.rules waiting word (long_of word) h

word_enters : (s : Shape) (names : Names) (is_trailing : Bool) (waiting : Waiting) (position : ℕ) (word : Text) (h : Held)
    → s.disable_help_subcommand ≡ false → word_fault s names is_trailing waiting word h ≡ []
    → EntersNoHelp (word_met s.rules names is_trailing waiting position word h).1
word_enters s names true waiting position word h helps none = tt
word_enters s names false waiting position word h helps none =
    other_enters s (subcommand_met names waiting word) waiting position word h helps none

positional_stops : (c : List Rule) (rule : Option Rule) (word : Text) (w : Walk) (h : Held) → w.stopped ≡ None
    → StopsAtNoHelp (to_positional c rule word w h).stopped
positional_stops c None word w h goes = rw goes tt
positional_stops c (Some rule) word w h goes = tt

step_stops : (c : List Rule) (word : Text) (w : Walk) (h : Held) (step : Step) → w.stopped ≡ None → EntersNoHelp step
    → StopsAtNoHelp (after_step c word w h step).stopped
step_stops c word w h (next waiting) goes enters = rw goes tt
step_stops c word w h (trailing position) goes enters = rw goes tt
step_stops c word w h (subcommand name) goes enters = enters
step_stops c word w h value goes enters = positional_stops c (arg_by_index c w.position) word w h goes

word_stops : (s : Shape) (names : Names) (w : Walk) (word : Text) → s.disable_help_subcommand ≡ false
    → StopsAtNoHelp w.stopped → turn_fault s names w word ≡ [] → StopsAtNoHelp (walked s.rules names w word).stopped
unfolding walked
word_stops s names w word helps stops none = go w.stopped refl stops none
  where
    met : Held × Step
    met = word_met s.rules names w.is_trailing w.waiting w.position word w.held

    go : (stop : Option (Text × List Text)) → w.stopped ≡ stop → StopsAtNoHelp stop
        → cond (is_some stop) [] (or_else (word_fault s names w.is_trailing w.waiting word w.held) (step_fault s w.position met.0 met.1)) ≡ []
        → StopsAtNoHelp (walked_from s.rules names stop w word).stopped
    go (Some stop) is stops none = stops
    go None is stops none =
        step_stops s.rules word w met.0 met.1 is
        (word_enters s names w.is_trailing w.waiting w.position word w.held helps (or_else_first _ _ none))

walk_stops : (s : Shape) (names : Names) (words : List Text) (w : Walk) → s.disable_help_subcommand ≡ false
    → StopsAtNoHelp w.stopped → walk_fault s names w words ≡ [] → StopsAtNoHelp (fold (walked s.rules names) w words).stopped
unfolding walk_fault
walk_stops s names [] w helps stops none = stops
walk_stops s names (word ∷ words) w helps stops none =
    walk_stops s names words (walked s.rules names w word) helps
    (word_stops s names w word helps stops (or_else_first _ _ none)) (or_else_second _ _ none)

-- ---- the command that is entered

abbrev IsOurs : Shape → Type 0
IsOurs s =
    IsCommand s.name
    ⊎ ((word : Text) → answers_to word (label_of s) ≡ true → bytes_eq word (codes "help") ≡ true)

abbrev AreOurs : List Shape → Type 0
AreOurs [] = Unit {0}
AreOurs (s ∷ rest) = IsOurs s × AreOurs rest

abbrev entered_of : List Shape → Text × List Text → Option (Text × List Row)
entered_of shapes stop = option_map (λ s. rows_at s stop.1) (find (λ s. answers_to stop.0 (label_of s)) shapes)

enters_ours : (shapes : List Shape) (stop : Text × List Text) → bytes_eq stop.0 (codes "help") ≡ false → AreOurs shapes
    → is_some (entered_of shapes stop) ≡ true → IsSomeAnd (entered_of shapes stop) (λ found. IsCommand found.0)
enters_ours [] stop no_help ours some = absurd (true≢false (sym some))
enters_ours (s ∷ rest) stop no_help ours some =
    go (λ some. enters_ours rest stop no_help ours.1 some) (answers_to stop.0 (label_of s)) refl some
  where
    found : Bool → Option (Text × List Row)
    found b = option_map (λ s. rows_at s stop.1) (cond b (Some s) (find (λ s. answers_to stop.0 (label_of s)) rest))

    go : (is_some (found false) ≡ true → IsSomeAnd (found false) (λ found. IsCommand found.0)) → (b : Bool)
        → answers_to stop.0 (label_of s) ≡ b → is_some (found b) ≡ true
        → IsSomeAnd (found b) (λ found. IsCommand found.0)
    go behind true e some = elim ours.0 [
      | inl command ↦ command
      | inr help ↦ absurd (true≢false (sym (help stop.0 e) ∙ no_help))
    ]
    go behind false e some = behind some

answers_to_help : (word : Text) → answers_to word (codes "help", []) ≡ true → bytes_eq word (codes "help") ≡ true
answers_to_help word e = go (bytes_eq (codes "help") word) refl e
  where
    go : (b : Bool) → bytes_eq (codes "help") word ≡ b → (b || false) ≡ true → bytes_eq word (codes "help") ≡ true
    go true same e =
        subst (λ w. bytes_eq w (codes "help") ≡ true) ((bytes_eq-Decides (codes "help") word).0 same) refl
    go false same e = absurd (true≢false (sym e))

are_ours : AreOurs (built xarm).subs
are_ours =
    (inl (inl (inl refl)), (inl (inl (inr (inl refl))), (inl (inl (inr (inr (inl refl)))), (inl (inl (inr (inr (inr (inl refl))))), (inl (inl (inr (inr (inr (inr (inl refl)))))), (inl (inl (inr (inr (inr (inr (inr (inl refl))))))), (inl (inl (inr (inr (inr (inr (inr (inr (inl refl)))))))), (inl (inl (inr (inr (inr (inr (inr (inr (inr (inl refl))))))))), (inl (inl (inr (inr (inr (inr (inr (inr (inr (inr refl))))))))), (inl (inr refl), (inl (inr refl), (inl (inr refl), (inl (inr refl), (inl (inr refl), (inl (inr refl), (inl (inr refl), (inl (inr refl), (inl (inr refl), (inl (inr refl), (inl (inr refl), (inl (inr refl), (inr answers_to_help, tt))))))))))))))))))))))

enters_command : (stop : Option (Text × List Text)) → StopsAtNoHelp stop → is_some (entered (built xarm) stop) ≡ true
    → IsSomeAnd (entered (built xarm) stop) (λ found. IsCommand found.0)
enters_command None stops some = absurd (true≢false (sym some))
enters_command (Some stop) stops some = enters_ours (built xarm).subs stop stops are_ours some

enters_one : (rows : List Row) (has_subcommand : Bool) → check_fault (built xarm).top rows has_subcommand ≡ [] → has_subcommand ≡ true
enters_one rows true none = refl
enters_one rows false none = absurd (some_kind MissingSubcommand [] none)

pub names_a_command : (words : List Text) → fault_of xarm words ≡ []
    → IsSomeAnd (subcommand_of xarm words) (λ found. IsCommand found.0)
names_a_command words none =
    let all = built xarm in
    let arguments = argument_words xarm words in
    let end = walk all.top.rules (names_of all) nothing_held arguments in
    let passes = level_passes
    (walk_fault all.top (names_of all) (walk_from nothing_held) arguments)
    (entered_fault all end.stopped)
    (settle_fault all.top.rules all.top.args_override_self end.held)
    (defaults_fault (settled all.top.rules end.held).rows all.top.rules)
    (check_fault all.top (finished all.top.rules end.held) (is_some (entered all end.stopped))) none in
    enters_command end.stopped (walk_stops all.top (names_of all) arguments (walk_from nothing_held) refl tt passes.0)
    (enters_one (finished all.top.rules end.held) (is_some (entered all end.stopped)) passes.1)
