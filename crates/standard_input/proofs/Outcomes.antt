-- What is known of an answer whose error became another one: it has the variant that it had.
use Rattle.std.proofs.Common.{◌≡◌, true, false}
use Rattle.std.specs.Prelude.{Result, Ok, Err, OnOk, OnErr, is_ok}

pub on_ok : {T E P : Type 0} (r : Result T E) → true ≡ is_ok r → OnOk r P → P
on_ok (Ok x) h p = p
on_ok (Err e) h p = absurd cc

pub on_err : {T E P : Type 0} (r : Result T E) → false ≡ is_ok r → OnErr r P → P
on_err (Ok x) h p = absurd cc
on_err (Err e) h p = p

-- what an answer says of success is so of one that has its variant
pub ok_stays : {T U E D : Type 0} (P : Type 0) (r : Result T E) (s : Result U D) → is_ok s ≡ is_ok r → OnOk r P → OnOk s P
ok_stays P r (Ok x) h p = on_ok r h p
ok_stays P r (Err e) h p = tt

pub err_stays : {T U E D : Type 0} (P : Type 0) (r : Result T E) (s : Result U D) → is_ok s ≡ is_ok r → OnErr r P → OnErr s P
err_stays P r (Ok x) h p = tt
err_stays P r (Err e) h p = on_err r h p
