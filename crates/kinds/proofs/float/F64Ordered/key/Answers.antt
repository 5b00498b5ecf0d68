use Rattle.std.proofs.Common.{T, rules}
use Rattle.std.specs.Float.{binary64}
use Rattle.std.specs.Float.Ieee.{fits}
use Rattle.kinds.specs.FloatOrder.{keys_by_less}
use Rattle.kinds.proofs.float.F64Ordered.key.Goals as goal

pub returns-then-bits-lt-SIGN : goal.returns-then-bits-lt-SIGN
returns-then-bits-lt-SIGN c =
    let f : T (fits binary64 c.args.self) = search rules in
    record { value = search rules; fits = f; order = λ y. keys_by_less c.args.self y f }

pub returns-else-bits-lt-SIGN : goal.returns-else-bits-lt-SIGN
returns-else-bits-lt-SIGN c =
    let f : T (fits binary64 c.args.self) = search rules in
    record { value = search rules; fits = f; order = λ y. keys_by_less c.args.self y f }
