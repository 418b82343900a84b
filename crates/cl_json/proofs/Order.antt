-- The members of what is read are in order.
use Rattle.std.proofs.Common.{◌≡◌, ℕ, List, Bool, true, false, Option, Some, None, option_map, option_and_then, IfSome, if◌then◌else◌, Ordering, Less, Equal, Greater, nat_cmp, refl, ap, ◌∙◌}
use Rattle.std.proofs.lemmas.Cmp.{nat_list_cmp_total}
use Rattle.std.specs.Ordering.{match_ordering, ordering_reverse}
use Rattle.std.specs.Cmp.Lexicographic.{slice_cmp}
use Rattle.std.specs.Str.{is_utf8}
use Rattle.json.specs.Json as json
use Rattle.json.specs.Lex.{tokens}
use Rattle.serde_json.specs.Data.{Data, number, array, object, item, Members, no_members, member, put}
use Rattle.serde_json.specs.Read.{of_json, of_items, of_members, number_of, read, max_depth}
use Rattle.cl_json.specs.Json.{json_of}
use Rattle.cl_json.specs.Order.{AllAfter, Rising, InOrder, ItemsInOrder, MembersInOrder}

map_if : {A B : Type 0} (P : A → Type 0) (Q : B → Type 0) (f : A → B) (o : Option A) → IfSome o P → ((x : A) → P x → Q (f x)) → IfSome (option_map f o) Q
map_if P Q f None h so = tt
map_if P Q f (Some x) h so = so x h

then_if : {A B : Type 0} (P : A → Type 0) (Q : B → Type 0) (f : A → Option B) (o : Option A) → IfSome o P → ((x : A) → P x → IfSome (f x) Q) → IfSome (option_and_then f o) Q
then_if P Q f None h so = tt
then_if P Q f (Some x) h so = so x h

any_if : {A : Type 0} (o : Option A) → IfSome o (λ x. Unit {0})
any_if None = tt
any_if (Some x) = tt

chosen : (P : Members → Type 0) (o : Ordering) (a b c : Members) → P a → P b → P c → P (match_ordering o a b c)
chosen P Less a b c p q r = p
chosen P Equal a b c p q r = q
chosen P Greater a b c p q r = r

after_chain : (k l : List ℕ) (ms : Members) → slice_cmp nat_cmp k l ≡ Less → AllAfter l ms → AllAfter k ms
after_chain k l no_members e h = tt
after_chain k l (member m d ms) e h = (nat_list_cmp_total.trans k l m e h.0, after_chain k l ms e h.1)

after_put : (l k : List ℕ) (d : Data) (ms : Members) → slice_cmp nat_cmp l k ≡ Less → AllAfter l ms → AllAfter l (put k d ms)
after_put l k d no_members e h = (e, tt)
after_put l k d (member m c ms) e h =
    chosen (AllAfter l) (slice_cmp nat_cmp k m) _ _ _ (e, h) h (h.0, after_put l k d ms e h.1)

rising_by : (o : Ordering) (k l : List ℕ) (d e : Data) (ms : Members) → slice_cmp nat_cmp k l ≡ o → AllAfter l ms → Rising ms → Rising (put k d ms)
    → Rising (match_ordering o (member k d (member l e ms)) (member l d ms) (member l e (put k d ms)))
rising_by Less k l d e ms is h r p = ((is, after_chain k l ms is h), (h, r))
rising_by Equal k l d e ms is h r p = (h, r)
rising_by Greater k l d e ms is h r p = (after_put l k d ms (nat_list_cmp_total.antisymm l k ∙ ap ordering_reverse is) h, p)

rising_put : (k : List ℕ) (d : Data) (ms : Members) → Rising ms → Rising (put k d ms)
rising_put k d no_members r = (tt, tt)
rising_put k d (member l e ms) r = rising_by (slice_cmp nat_cmp k l) k l d e ms refl r.0 r.1 (rising_put k d ms r.1)

order_put : (k : List ℕ) (d : Data) (ms : Members) → InOrder d → MembersInOrder ms → MembersInOrder (put k d ms)
order_put k d no_members i h = (i, tt)
order_put k d (member l e ms) i h =
    chosen MembersInOrder (slice_cmp nat_cmp k l) _ _ _ (i, h) (i, h.1) (h.0, order_put k d ms i h.1)

mutual
  in_order : (j : json.Json) → IfSome (of_json j) InOrder
  in_order json.null = tt
  in_order (json.boolean b) = tt
  in_order (json.number s) = map_if (λ x. Unit {0}) InOrder number (number_of s) (any_if (number_of s)) (λ x h. tt)
  in_order (json.string s) = tt
  in_order (json.array js) = map_if ItemsInOrder InOrder array (of_items js) (items_in_order js) (λ x h. h)
  in_order (json.object ms) = map_if (λ all. Rising all × MembersInOrder all) InOrder object (of_members ms no_members) (members_in_order ms no_members tt tt) (λ x h. h)

  items_in_order : (js : json.Items) → IfSome (of_items js) ItemsInOrder
  items_in_order json.no_items = tt
  items_in_order (json.item j js) = then_if InOrder ItemsInOrder _ (of_json j) (in_order j) (λ d h. map_if ItemsInOrder ItemsInOrder (item d) (of_items js) (items_in_order js) (λ x k. (h, k)))

  members_in_order : (ms : json.Members) (found : Members) → Rising found → MembersInOrder found → IfSome (of_members ms found) (λ all. Rising all × MembersInOrder all)
  members_in_order json.no_members found r m = (r, m)
  members_in_order (json.member k j ms) found r m =
      then_if InOrder (λ all. Rising all × MembersInOrder all) _ (of_json j) (in_order j) (λ d h. members_in_order ms (put k d found) (rising_put k d found r) (order_put k d found h m))

if_test : (b : Bool) (o : Option Data) → IfSome o InOrder → IfSome (if b then o else None) InOrder
if_test true o h = h
if_test false o h = tt

pub read_in_order : (bytes : List ℕ) → IfSome (json_of bytes) InOrder
unfolding json_of
read_in_order bytes =
    if_test (is_utf8 bytes) (read bytes) (then_if (λ j. Unit {0}) InOrder of_json (option_and_then (λ p. json.if_last p.0 p.1) (json.value max_depth (tokens bytes))) (any_if _) (λ j u. in_order j))
