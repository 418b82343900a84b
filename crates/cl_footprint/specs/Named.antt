-- The names of functions.
use Rattle.cl_types.specs.Name.{IsName}
use Rattle.cl_code.specs.declared.definition.Definition.{Definition}
use Rattle.cl_code.specs.declared.definition.Definition.TheVariants.{Function}

-- a definition that is a function has a name of the language
abbrev pub IsNamed : Definition → Type 0
IsNamed (Function f) = IsName f.name
IsNamed d = Unit {0}
