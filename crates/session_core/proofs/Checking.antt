-- Routes that are read, and what is answered to them.
use Rattle.std.proofs.Common.{◌≡◌, ℕ, List, Option, Result, Ok, Err, refl, sym, ◌∙◌, ap, subst}
use Rattle.std.specs.Prelude.{IsErrAnd}
use Rattle.chart_model.specs.Answers.{◌>>=◌}
use Rattle.chart_model.specs.Memory.{Gives as GivesRoute}
use Rattle.chart_model.specs.State.{StateValue}
use Rattle.chart_model.specs.declared.settings.Settings.{Settings}
use Rattle.chart_ports.specs.declared.shelf.Fetched.{Fetched}
use Rattle.route_check.specs.declared.fault.RouteFault.{RouteFault}
use Rattle.route_check.specs.declared.fault.RouteFault.TheVariants as of_route
use Rattle.script_reader.specs.declared.reply.Reply.{Reply}
use Rattle.session_lists.specs.Cover.{cover_reply}
use Rattle.session_lists.specs.Route.{route_reply}
use Rattle.session_core.specs.declared.fault.EventFault.{EventFault}
use Rattle.session_core.specs.declared.refusal.LineRefusal.{LineRefusal}
use Rattle.session_core.specs.Answers.{Gives}
use Rattle.session_core.specs.Fetch.{file_in}
use Rattle.session_core.specs.Route.{ROUTE_LIMIT, cover_of, fault_of_route, or_refused, replied_by, route_of}
use Rattle.session_core.proofs.Fetching.{next-done, next-stopped, passed-gives}

-- a route that isn't read
unread : (fault : RouteFault) (wanted : Result Reply RouteFault) → GivesRoute {X = Reply} of_route.NoMemory (Err fault) wanted
    → Gives {A = Reply} (Err (fault_of_route fault)) (or_refused wanted)
unread (of_route.BadLine line) wanted h = ap or_refused (h (λ (e : of_route.BadLine line ≡ of_route.NoMemory). cc))
unread (of_route.Few points) wanted h = ap or_refused (h (λ (e : of_route.Few points ≡ of_route.NoMemory). cc))
unread (of_route.Many points) wanted h = ap or_refused (h (λ (e : of_route.Many points ≡ of_route.NoMemory). cc))
unread of_route.NoMemory wanted h = tt

-- ---- the file

route-by : (settings : Settings) (state : StateValue) (name : List ℕ) (o : Option Fetched)
    → route_of settings state name o ≡ (file_in ROUTE_LIMIT name o >>= replied_by (route_reply settings state))
unfolding route_of
route-by settings state name o = refl

cover-by : (state : StateValue) (name : List ℕ) (o : Option Fetched)
    → cover_of state name o ≡ (file_in ROUTE_LIMIT name o >>= replied_by (cover_reply state))
unfolding cover_of
cover-by state name o = refl

module _ (reply : List ℕ → Result Reply RouteFault) (name : List ℕ) (o : Option Fetched) (wanted : Result Reply LineRefusal)
    (is : wanted ≡ (file_in ROUTE_LIMIT name o >>= replied_by reply)) (r : Result Reply EventFault) where
  -- a file that isn't there
  unfetched : (fault : EventFault) → IsErrAnd r (λ passed. passed ≡ fault) → Gives (Err fault) (file_in ROUTE_LIMIT name o) → Gives r wanted
  unfetched fault passed h = subst (Gives r) (sym is) (next-stopped (replied_by reply) (file_in ROUTE_LIMIT name o) r fault passed h)

  -- one that is
  fetched-is : (bytes shown : List ℕ) → file_in ROUTE_LIMIT name o ≡ Ok bytes → shown ≡ bytes → wanted ≡ replied_by reply shown
  fetched-is bytes shown found same =
      is ∙ next-done (replied_by reply) (file_in ROUTE_LIMIT name o) bytes found ∙ ap (replied_by reply) (sym same)

  refused : (bytes shown : List ℕ) (fault : RouteFault) → IsErrAnd r (λ passed. passed ≡ fault_of_route fault)
      → file_in ROUTE_LIMIT name o ≡ Ok bytes → shown ≡ bytes → GivesRoute {X = Reply} of_route.NoMemory (Err fault) (reply shown) → Gives r wanted
  refused bytes shown fault passed found same h =
      subst (Gives r) (sym (fetched-is bytes shown found same))
      (passed-gives r (fault_of_route fault) (replied_by reply shown) passed (unread fault (reply shown) h))

  replied : (bytes shown : List ℕ) (told : Reply) → file_in ROUTE_LIMIT name o ≡ Ok bytes → shown ≡ bytes → reply shown ≡ Ok told
      → wanted ≡ Ok told
  replied bytes shown told found same h = fetched-is bytes shown found same ∙ ap or_refused h

-- ---- the lines

module _ (settings : Settings) (state : StateValue) (name : List ℕ) (o : Option Fetched) (r : Result Reply EventFault) where
  pub route-unfetched : (fault : EventFault) → IsErrAnd r (λ passed. passed ≡ fault) → Gives (Err fault) (file_in ROUTE_LIMIT name o)
      → Gives r (route_of settings state name o)
  route-unfetched = unfetched (route_reply settings state) name o (route_of settings state name o) (route-by settings state name o) r

  pub route-refused : (bytes shown : List ℕ) (fault : RouteFault) → IsErrAnd r (λ passed. passed ≡ fault_of_route fault)
      → file_in ROUTE_LIMIT name o ≡ Ok bytes → shown ≡ bytes → GivesRoute {X = Reply} of_route.NoMemory (Err fault) (route_reply settings state shown)
      → Gives r (route_of settings state name o)
  route-refused = refused (route_reply settings state) name o (route_of settings state name o) (route-by settings state name o) r

  pub route-replied : (bytes shown : List ℕ) (told : Reply) → file_in ROUTE_LIMIT name o ≡ Ok bytes → shown ≡ bytes
      → route_reply settings state shown ≡ Ok told → route_of settings state name o ≡ Ok told
  route-replied = replied (route_reply settings state) name o (route_of settings state name o) (route-by settings state name o) r

module _ (state : StateValue) (name : List ℕ) (o : Option Fetched) (r : Result Reply EventFault) where
  pub cover-unfetched : (fault : EventFault) → IsErrAnd r (λ passed. passed ≡ fault) → Gives (Err fault) (file_in ROUTE_LIMIT name o)
      → Gives r (cover_of state name o)
  cover-unfetched = unfetched (cover_reply state) name o (cover_of state name o) (cover-by state name o) r

  pub cover-refused : (bytes shown : List ℕ) (fault : RouteFault) → IsErrAnd r (λ passed. passed ≡ fault_of_route fault)
      → file_in ROUTE_LIMIT name o ≡ Ok bytes → shown ≡ bytes → GivesRoute {X = Reply} of_route.NoMemory (Err fault) (cover_reply state shown)
      → Gives r (cover_of state name o)
  cover-refused = refused (cover_reply state) name o (cover_of state name o) (cover-by state name o) r

  pub cover-replied : (bytes shown : List ℕ) (told : Reply) → file_in ROUTE_LIMIT name o ≡ Ok bytes → shown ≡ bytes
      → cover_reply state shown ≡ Ok told → cover_of state name o ≡ Ok told
  cover-replied = replied (cover_reply state) name o (cover_of state name o) (cover-by state name o) r
