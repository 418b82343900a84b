-- The sources of `check` are read one after another.
use Rattle.std.proofs.Common.{◌≡◌, ℕ, ◌+◌, ◌<◌, List, [], ◌∷◌, ◌++◌, length, take, get_or, map, string_bytes, Option, Some, Ok, Err, refl, sym, ap, subst, ◌∙◌, append_assoc, append-nil}
use Rattle.std.specs.declared.alloc.Global.{Global}
use Rattle.std.specs.declared.string.String.{String}
use Rattle.std.proofs.lemmas.List.{map_push, take_more}
use Rattle.cl_c32.specs.Address.{AddressParts}
use Rattle.cl_c32.specs.declared.principal.Principal.{Principal}
use Rattle.cl_shapes.specs.declared.function.CostFn.{CostFn}
use Rattle.cl_ports.specs.Files.{Held}
use Rattle.cl_ports.specs.Growth.{Grows, GrowsPart}
use Rattle.cl_ports.proofs.Grown.{grows_twice, part_next, part_more, part_whole}
use Rattle.cl_forms.specs.declared.version.Version.{Version}
use Rattle.cl_words.specs.declared.sources.Source.{Source}
use Rattle.cl_words.specs.Sources.{contract_at}
use Rattle.cl_words.specs.Words.{texts}
use Rattle.cl_replies.specs.declared.inputs.FileFault.{FileFault}
use Rattle.cl_replies.specs.Inputs.{Inputs, BadFile, CheckInputs}
use Rattle.cl_replies.specs.Checked.{source_at}
use Rattle.cl_app.specs.Reading.{Asks, FileResult, Gives, IsTextAt, Reads, ends_with, reads_file, reads_sources, text_in}
use Rattle.cl_app.proofs.Read.{asks_first}

-- so many first paths are good, and these are their sources
abbrev pub AreGood : Held → AddressParts → Version → List (List ℕ) → List Source → Type 0
AreGood files address version [] sources = sources ≡ []
AreGood files address version (path ∷ paths) sources =
    (text : List ℕ) × (more : List Source) × (text_in files path ≡ Some (Ok text)) × AreGood files address version paths more × (sources ≡ source_at address version path text ∷ more)

good_next : (files : Held) (address : AddressParts) (version : Version) (paths : List (List ℕ)) (sources : List Source) (path text : List ℕ) → AreGood files address version paths sources → text_in files path ≡ Some (Ok text) → AreGood files address version (paths ++ path ∷ []) (sources ++ source_at address version path text ∷ [])
good_next files address version [] sources path text good there = (text, [], there, refl, ap (λ (l : List Source). l ++ source_at address version path text ∷ []) good)
good_next files address version (p ∷ paths) sources path text good there =
    (good.0, good.1 ++ source_at address version path text ∷ [], good.2, good_next files address version paths good.1 path text good.3 there, ap (λ (l : List Source). l ++ source_at address version path text ∷ []) good.4)

module _ (files : Held) (address : AddressParts) (version : Version) where
  -- what is read behind so many good paths
  behind_good : (paths rest : List (List ℕ)) (sources : List Source) (Then : List Source → Reads) (asked : List (List ℕ)) (inputs : Inputs) → AreGood files address version paths sources → reads_sources files address version rest (λ more. Then (sources ++ more)) asked inputs → reads_sources files address version (paths ++ rest) Then (paths ++ asked) inputs
  behind_good [] rest sources Then asked inputs good is = subst (λ (l : List Source). reads_sources files address version rest (λ more. Then (l ++ more)) asked inputs) good is
  behind_good (p ∷ paths) rest sources Then asked inputs good is =
      subst (λ (r : FileResult (List ℕ)). reads_file p r (λ text. reads_sources files address version (paths ++ rest) (λ more. Then (source_at address version p text ∷ more))) (p ∷ (paths ++ asked)) inputs) (sym good.2)
      (paths ++ asked, refl, behind_good paths rest good.1 (λ more. Then (source_at address version p good.0 ∷ more)) asked inputs good.3 (subst (λ (l : List Source). reads_sources files address version rest (λ more. Then (l ++ more)) asked inputs) good.4 is))

  -- and the other way round
  in_front_good : (paths rest : List (List ℕ)) (sources : List Source) (Then : List Source → Reads) (asked : List (List ℕ)) (inputs : Inputs) → AreGood files address version paths sources → reads_sources files address version (paths ++ rest) Then asked inputs → (others : List (List ℕ)) × (asked ≡ paths ++ others) × reads_sources files address version rest (λ more. Then (sources ++ more)) others inputs
  in_front_good [] rest sources Then asked inputs good is = (asked, refl, subst (λ (l : List Source). reads_sources files address version rest (λ more. Then (l ++ more)) asked inputs) (sym good) is)
  in_front_good (p ∷ paths) rest sources Then asked inputs good is =
      let there = subst (λ (r : FileResult (List ℕ)). reads_file p r (λ text. reads_sources files address version (paths ++ rest) (λ more. Then (source_at address version p text ∷ more))) asked inputs) good.2 is in
      let found = in_front_good paths rest good.1 (λ more. Then (source_at address version p good.0 ∷ more)) there.0 inputs good.3 there.2 in
      (found.0, there.1 ∙ ap (λ (l : List (List ℕ)). p ∷ l) found.1, subst (λ (l : List Source). reads_sources files address version rest (λ more. Then (l ++ more)) found.0 inputs) (sym good.4) found.2)

-- ---- what the loop keeps

-- all paths but the rest were asked for; where it is told what is held, they are good, with these sources
pub record SoFar (held : Option Held) (address : AddressParts) (version : Version) (paths rest : List (List ℕ)) (sources : List Source) (before now : Option (List (List ℕ))) : Type 0 where
  pub front : List (List ℕ)
  pub split : paths ≡ front ++ rest
  pub told : (files : Held) → held ≡ Some files → AreGood files address version front sources
  pub grown : Grows before now front

pub so_far_first : (held : Option Held) (address : AddressParts) (version : Version) (paths : List (List ℕ)) (before : Option (List (List ℕ))) → SoFar held address version paths paths [] before before
so_far_first held address version paths before = record { front = []; split = refl; told = λ files h. refl; grown = record { told = λ xs is. is ∙ ap Some (sym (append-nil xs)) } }

pub so_far_next : (held : Option Held) (address : AddressParts) (version : Version) (paths rest more : List (List ℕ)) (path text : List ℕ) (sources : List Source) (before between now : Option (List (List ℕ))) → (so_far : SoFar held address version paths rest sources before between) → rest ≡ path ∷ more → IsTextAt held path (Ok text) → Grows between now (path ∷ []) → SoFar held address version paths more (sources ++ source_at address version path text ∷ []) before now
so_far_next held address version paths rest more path text sources before between now so_far e there grown = record {
  front = so_far.front ++ path ∷ [];
  split = so_far.split ∙ ap (λ (l : List (List ℕ)). so_far.front ++ l) e ∙ sym (append_assoc so_far.front (path ∷ []) more);
  told = λ files h. good_next files address version so_far.front sources path text (so_far.told files h) (there.told files h);
  grown = grows_twice before between now so_far.front (path ∷ []) so_far.grown grown;
}

-- what `check` reads of its paths
abbrev pub CheckReads : List CostFn → AddressParts → Version → List (List ℕ) → Held → Reads
CheckReads table address version paths files = reads_sources files address version paths (λ sources. ends_with (CheckInputs table sources))

-- all are good
pub gives_all : (held : Option Held) (address : AddressParts) (version : Version) (paths rest : List (List ℕ)) (sources : List Source) (table : List CostFn) (before now : Option (List (List ℕ))) → SoFar held address version paths rest sources before now → rest ≡ [] → Gives (CheckReads table address version paths) held (CheckInputs table sources)
gives_all held address version paths rest sources table before now so_far e = record {
  told = λ files h.
      let end : reads_sources files address version [] (λ more. ends_with (CheckInputs table (sources ++ more))) [] (CheckInputs table sources) = (refl, ap (CheckInputs table) (sym (append-nil sources))) in
      let whole = behind_good files address version so_far.front [] sources (λ all. ends_with (CheckInputs table all)) [] (CheckInputs table sources) (so_far.told files h) end in
      (so_far.front ++ [], subst (λ (ps : List (List ℕ)). reads_sources files address version ps (λ all. ends_with (CheckInputs table all)) (so_far.front ++ []) (CheckInputs table sources)) (sym (so_far.split ∙ ap (λ (l : List (List ℕ)). so_far.front ++ l) e)) whole);
}

-- the next one is bad
pub gives_fault : (held : Option Held) (address : AddressParts) (version : Version) (paths rest more : List (List ℕ)) (path : List ℕ) (fault : FileFault) (sources : List Source) (table : List CostFn) (before now : Option (List (List ℕ))) → SoFar held address version paths rest sources before now → rest ≡ path ∷ more → IsTextAt held path (Err fault) → Gives (CheckReads table address version paths) held (BadFile path fault)
gives_fault held address version paths rest more path fault sources table before now so_far e there = record {
  told = λ files h.
      let end : reads_sources files address version (path ∷ more) (λ rest. ends_with (CheckInputs table (sources ++ rest))) (path ∷ []) (BadFile path fault) =
      subst (λ (r : FileResult (List ℕ)). reads_file path r (λ text. reads_sources files address version more (λ rest. ends_with (CheckInputs table (sources ++ source_at address version path text ∷ rest)))) (path ∷ []) (BadFile path fault)) (sym (there.told files h)) (refl, refl)
      in
      let whole = behind_good files address version so_far.front (path ∷ more) sources (λ all. ends_with (CheckInputs table all)) (path ∷ []) (BadFile path fault) (so_far.told files h) end in
      (so_far.front ++ path ∷ [], subst (λ (ps : List (List ℕ)). reads_sources files address version ps (λ all. ends_with (CheckInputs table all)) (so_far.front ++ path ∷ []) (BadFile path fault)) (sym (so_far.split ∙ ap (λ (l : List (List ℕ)). so_far.front ++ l) e)) whole);
}

-- ---- what is asked for

whole_names : (paths front rest more : List (List ℕ)) (path : List ℕ) → paths ≡ front ++ rest → rest ≡ path ∷ more → (front ++ path ∷ []) ++ more ≡ paths
whole_names paths front rest more path split e = append_assoc front (path ∷ []) more ∙ ap (λ (l : List (List ℕ)). front ++ l) (sym e) ∙ sym split

-- the next one may have been asked for
pub names_part : (held : Option Held) (address : AddressParts) (version : Version) (paths rest more : List (List ℕ)) (path : List ℕ) (sources : List Source) (before between now : Option (List (List ℕ))) → SoFar held address version paths rest sources before between → rest ≡ path ∷ more → GrowsPart between now (path ∷ []) → GrowsPart before now paths
names_part held address version paths rest more path sources before between now so_far e grown =
    subst (GrowsPart before now) (whole_names paths so_far.front rest more path so_far.split e) (part_more before now (so_far.front ++ path ∷ []) more (part_next before between now so_far.front (path ∷ []) so_far.grown grown))

pub names_so_far : (held : Option Held) (address : AddressParts) (version : Version) (paths rest : List (List ℕ)) (sources : List Source) (before now : Option (List (List ℕ))) → SoFar held address version paths rest sources before now → GrowsPart before now paths
names_so_far held address version paths rest sources before now so_far = subst (GrowsPart before now) (sym so_far.split) (part_more before now so_far.front rest (part_whole before now so_far.front so_far.grown))

-- a first part of what `check` asks for
pub check_asks : (held : Option Held) (address : AddressParts) (version : Version) (paths rest more : List (List ℕ)) (path : List ℕ) (sources : List Source) (table : List CostFn) (before between now : Option (List (List ℕ))) → (so_far : SoFar held address version paths rest sources before between) → rest ≡ path ∷ more → GrowsPart between now (path ∷ []) → Asks (CheckReads table address version paths) held before now
check_asks held address version paths rest more path sources table before between now so_far e part = record {
  told = λ files asked inputs h is.
      let whole = subst (λ (ps : List (List ℕ)). reads_sources files address version ps (λ all. ends_with (CheckInputs table all)) asked inputs) (so_far.split ∙ ap (λ (l : List (List ℕ)). so_far.front ++ l) e) is in
      let found = in_front_good files address version so_far.front (path ∷ more) sources (λ all. ends_with (CheckInputs table all)) asked inputs (so_far.told files h) whole in
      let first = asks_first path (text_in files path) (λ text. reads_sources files address version more (λ rest. ends_with (CheckInputs table (sources ++ source_at address version path text ∷ rest)))) found.0 inputs found.2 in
      let names : (so_far.front ++ path ∷ []) ++ first.0 ≡ asked = append_assoc so_far.front (path ∷ []) first.0 ∙ ap (λ (l : List (List ℕ)). so_far.front ++ l) (sym first.1) ∙ sym found.1 in
      subst (GrowsPart before now) names (part_more before now (so_far.front ++ path ∷ []) first.0 (part_next before between now so_far.front (path ∷ []) so_far.grown part));
}

-- all were asked for
pub check_asks_all : (held : Option Held) (address : AddressParts) (version : Version) (paths rest : List (List ℕ)) (sources : List Source) (table : List CostFn) (before now : Option (List (List ℕ))) → (so_far : SoFar held address version paths rest sources before now) → rest ≡ [] → Asks (CheckReads table address version paths) held before now
check_asks_all held address version paths rest sources table before now so_far e = record {
  told = λ files asked inputs h is.
      let whole = subst (λ (ps : List (List ℕ)). reads_sources files address version ps (λ all. ends_with (CheckInputs table all)) asked inputs) (so_far.split ∙ ap (λ (l : List (List ℕ)). so_far.front ++ l) e) is in
      let found = in_front_good files address version so_far.front [] sources (λ all. ends_with (CheckInputs table all)) asked inputs (so_far.told files h) whole in
      subst (GrowsPart before now) (sym found.1) (part_more before now so_far.front found.0 (part_whole before now so_far.front so_far.grown));
}

-- ---- the contracts of the sources

pub contracts_next : (address : AddressParts) (version : Version) (paths : List (String Global)) (i : ℕ) (d path : String Global) (name text : List ℕ) (sources : List Source) → i < length paths → path ≡ get_or paths i d → name ≡ string_bytes path
    → map (λ (source : Source). source.principal) sources ≡ map (contract_at address) (texts (take i paths))
    → map (λ (source : Source). source.principal) (sources ++ source_at address version name text ∷ []) ≡ map (contract_at address) (texts (take (i + 1) paths))
contracts_next address version paths i d path name text sources h is_next named so_far =
    map_push (λ (source : Source). source.principal) sources (source_at address version name text)
    ∙ ap (λ (l : List Principal). l ++ contract_at address name ∷ []) so_far
    ∙ ap (λ (n : List ℕ). map (contract_at address) (texts (take i paths)) ++ contract_at address n ∷ []) (named ∙ ap string_bytes is_next)
    ∙ sym (map_push (contract_at address) (texts (take i paths)) (string_bytes (get_or paths i d)))
    ∙ ap (map (contract_at address)) (sym (map_push string_bytes (take i paths) (get_or paths i d)))
    ∙ ap (λ (ps : List (String Global)). map (contract_at address) (texts ps)) (sym (take_more paths i d h))
