-- Moves and conditions in the forms in which they are looked up.
use Rattle.std.specs.Prelude.{◌≡◌, List}
use Rattle.cl_events.specs.declared.event.Move.{Move}
use Rattle.cl_post.specs.declared.condition.Condition.{Condition}
use Rattle.cl_post.specs.declared.moved.Moved.{Moved}
use Rattle.cl_post.specs.declared.moved.Moved.TheVariants.{Summed, Listed}
use Rattle.cl_post.specs.declared.named.Named.{Named}
use Rattle.cl_post.specs.declared.named.Named.TheVariants.{Ordered, Listed as ListedConditions}
use Rattle.cl_post.specs.Holdings.{AreSums, AreNamed}

abbrev pub IsMoved : List Move → Moved → Type 0
IsMoved moves (Summed sums) = AreSums moves sums
IsMoved moves (Listed listed) = listed.now ≡ moves

abbrev pub IsNamed : List Condition → Named → Type 0
IsNamed conditions (Ordered named) = AreNamed conditions named
IsNamed conditions (ListedConditions listed) = listed.now ≡ conditions
