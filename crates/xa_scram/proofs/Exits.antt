-- What a step that gave a value, or gave nothing, says.
use Rattle.std.proofs.Common.{◌≡◌, true, false, Some, None, Result, Ok, Err}
use Rattle.std.specs.Prelude.{IfOk, IfSome}
use Rattle.std.specs.Result.{result_ok}

pub if_some : {A B : Type 0} (r : Result A B) (P : A → Type 0) → IfOk r P → IfSome (result_ok r) P
if_some (Ok x) P h = h
if_some (Err e) P h = tt

-- what is none isn't some
pub no_some : false ≡ true → ⊥
no_some e = cc

pub none_some : {A : Type 0} (x : A) → None ≡ Some x → ⊥
none_some x e = cc
