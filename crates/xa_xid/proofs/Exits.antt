-- What a step that gave nothing, or gave a value, says.
use Rattle.std.proofs.Common.{◌≡◌, Option, Some, None, Result, Ok, Err, subst}
use Rattle.std.specs.Prelude.{IfOk, IfSome, MatchOption, MatchResult, OnErr}
use Rattle.std.specs.Result.{result_ok}

pub none_from_err : {A B : Type 0} (r : Result A B) (U : Type 0) (P : A → Type 0) (Q : B → Type 0) → result_ok r ≡ None → MatchResult r P (λ e. (¬ U) × Q e) → ¬ U
none_from_err (Ok x) U P Q e m = absurd cc
none_from_err (Err x) U P Q e m = m.0

pub some_from_ok : {A B : Type 0} (r : Result A B) (x : A) (P : A → Type 0) (Q : B → Type 0) → result_ok r ≡ Some x → MatchResult r P Q → P x
some_from_ok (Ok y) x P Q e m = let same : y ≡ x = cc in subst P same m
some_from_ok (Err y) x P Q e m = absurd cc

pub if_some : {A B : Type 0} (r : Result A B) (P : A → Type 0) → IfOk r P → IfSome (result_ok r) P
if_some (Ok x) P h = h
if_some (Err e) P h = tt

pub none_or : {A : Type 0} (o : Option A) (P : Type 0) (Q : A → Type 0) → o ≡ None → MatchOption o P Q → P
none_or None P Q e m = m
none_or (Some x) P Q e m = absurd cc

pub some_or : {A : Type 0} (o : Option A) (x : A) (P : Type 0) (Q : A → Type 0) → o ≡ Some x → MatchOption o P Q → Q x
some_or None x P Q e m = absurd cc
some_or (Some y) x P Q e m = let same : y ≡ x = cc in subst Q same m

pub on_err : {A B : Type 0} (r : Result A B) (X : Type 0) → result_ok r ≡ None → OnErr r X → X
on_err (Ok x) X e h = absurd cc
on_err (Err x) X e h = h
