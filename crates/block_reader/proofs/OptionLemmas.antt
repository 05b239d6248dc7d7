-- Options by what follows from them.
use Rattle.std.proofs.Common.{◌≡◌, Bool, true, false, cond, Some, None, refl}
use Rattle.std.specs.declared.option.Option.{Option}
use Rattle.std.specs.Option.{option_and_then}

pub some-same : {A : Type 0} (x y : A) → Some x ≡ Some y → x ≡ y
some-same x y e = cc

-- a value that stands where a test holds
pub record Chosen {A : Type 0} (b : Bool) (x y : A) : Type 0 where
  pub test : b ≡ true
  pub value : x ≡ y

pub chosen : {A : Type 0} (b : Bool) (x y : A) → cond b (Some x) None ≡ Some y → Chosen b x y
chosen true x y e = record { test = refl; value = some-same x y e }
chosen false x y e = cc

-- a value that follows from another
pub record Follows {A B : Type 0} (o : Option A) (f : A → Option B) (y : B) : Type 0 where
  pub first : A
  pub given : o ≡ Some first
  pub then_value : f first ≡ Some y

pub follows : {A B : Type 0} (o : Option A) (f : A → Option B) (y : B) → option_and_then f o ≡ Some y → Follows o f y
follows None f y e = cc
follows (Some x) f y e = record { first = x; given = refl; then_value = e }
